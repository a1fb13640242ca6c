mod Users
