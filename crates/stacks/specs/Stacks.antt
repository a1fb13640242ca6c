-- What a stack holds, and how much it can hold. Assumes nothing.
use Rattle.std.specs.Prelude.{ℕ, List}
use Rattle.stacks.specs.declared.stack.Stack.{Stack}

-- the records in use, the oldest first
abbrev pub items : {T : Type 0} → Stack T → List T
items s = s.records

-- how many records there are slots for
abbrev pub room : {T : Type 0} → Stack T → ℕ
room s = s.slots
