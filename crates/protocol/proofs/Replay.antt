-- What every call keeps of deeds, images and cells: each open task's deeds replay, and the cells with the journal put back are what the closed instances leave.
use Rattle.std.proofs.Common.{◌≡◌, ℕ, Bool, true, false, cond, not, eqb, List, [], ◌∷◌, ◌++◌, get_or, set, ℤ, pos, filter, sym, refl, ap, ◌∙◌, subst, inl, inr}
use Rattle.std.specs.List.{ContainsAt, AllByRecursion}
use Rattle.std.proofs.lemmas.List.{append-nil}
use Rattle.std.proofs.lemmas.List.Elements.{filter-append}
use Rattle.std.proofs.ByRecursion.{All-weaker, All-push}
use Rattle.std.proofs.lemmas.Bool.{cond_both, cond-true, cond-false, both_ways, cases_eq, eqb-true, eqb-false, eq-eqb, ne_eqb, not-true, not_from_false}
use Rattle.rules.specs.Meaning.{Meaning, touches}
use Rattle.protocol.specs.declared.words.LockRecord.{LockRecord}
use Rattle.protocol.specs.declared.words.Image.{Image}
use Rattle.protocol.specs.Machine.{put_back, own_image, own_lock}
use Rattle.protocol.specs.Lines.{Deed, got, put, done, Agree}
use Rattle.protocol.proofs.Lists.{kept_has}
use Rattle.protocol.proofs.Cells.{deed_cell, NoImage, NoDeed, Parted, Replays, put_back_parted, put_back_write, done_put_back, agree_put_back, done_append, agree_append, replays_none, replays_read, replays_write, replays_set, replays_put_back}
use Rattle.protocol.proofs.Deeds.{Reaches, Apart, reaches_more, writes_touches, reads_touches}

-- an image of a cell that its task may write
abbrev Writable : Meaning → List LockRecord → Image → Type 0
Writable m locks n = Reaches m.writes locks n.task n.cell

-- a deed of a cell that the task may read or write
abbrev Touchable : Meaning → List LockRecord → ℕ → Deed → Type 0
Touchable m locks k d = Reaches (touches m) locks k (deed_cell d)

-- the images of a task
abbrev pub own_images : ℕ → List Image → List Image
own_images i journal = filter (own_image i) journal

-- the images of the others
abbrev pub others_images : ℕ → List Image → List Image
others_images i journal = filter (λ n. not (own_image i n)) journal

-- what holds of each element that passes holds of each that is kept
all_kept_if : {X : Type 0} (p : X → Bool) (P : X → Type 0) (xs : List X) → AllByRecursion (λ x. p x ≡ true → P x) xs → AllByRecursion P (filter p xs)
all_kept_if p P [] h = tt
all_kept_if p P (x ∷ xs) h = cond_both (p x) (x ∷ filter p xs) (filter p xs) (AllByRecursion P) (λ e. (h.0 e, all_kept_if p P xs h.1)) (λ e. all_kept_if p P xs h.1)

-- a filter changes nothing before a narrower one
kept_by_wider : {X : Type 0} (p q : X → Bool) → ((x : X) → p x ≡ true → q x ≡ true) → (xs : List X) → filter p (filter q xs) ≡ filter p xs
kept_by_wider p q w [] = refl
kept_by_wider p q w (x ∷ xs) = cond_both (q x) (x ∷ filter q xs) (filter q xs) (λ ys. filter p ys ≡ filter p (x ∷ xs))
    (λ e. ap (λ ys. cond (p x) (x ∷ ys) ys) (kept_by_wider p q w xs))
    (λ e. cond_both (p x) (x ∷ filter p xs) (filter p xs) (λ ys. filter p (filter q xs) ≡ ys) (λ f. absurd (both_ways (q x) e (w x f))) (λ f. kept_by_wider p q w xs))

-- what is shown of one task and of every other
pub per_task : (P : ℕ → Type 0) (i : ℕ) → P i → ((k : ℕ) → (i ≡ k → ⊥) → P k) → (k : ℕ) → P k
per_task P i here there k = elim (cases_eq i k) [ inl e ↦ subst P e here | inr d ↦ there k d ]

-- where nothing can be said of an element there is none
all_none : {X : Type 0} (xs : List X) → AllByRecursion (λ x. ⊥) xs → xs ≡ []
all_none [] h = refl
all_none (x ∷ xs) h = absurd h.0

-- an image of one task is not another's
own_not : (i k : ℕ) (n : Image) → (i ≡ k → ⊥) → own_image k n ≡ true → not (own_image i n) ≡ true
own_not i k n d e = not_from_false (own_image i n) (ne_eqb n.task i (λ f. d (sym f ∙ eqb-true n.task k e)))

-- what every call keeps: `log k` are the deeds of the open task k, `closed` those of the closed instances, `first` the cells that making left
pub record Replaying (m : Meaning) (first : List ℤ) (locks : List LockRecord) (journal : List Image) (cells : List ℤ) (opened : ℕ → Bool) (log : ℕ → List Deed) (closed : List Deed) : Type 0 where
  -- each image is of a cell that its task may write
  pub images : AllByRecursion (Writable m locks) journal
  -- each deed is of a cell that its task may read or write
  pub touched : (k : ℕ) → opened k ≡ true → AllByRecursion (Touchable m locks k) (log k)
  -- the deeds replay on the task's own images
  pub replays : (k : ℕ) → opened k ≡ true → Replays (log k) (own_images k journal) cells
  -- the cells with the journal put back are what the closed instances leave
  pub base : put_back journal cells ≡ done closed first
  -- and each of their reads answers as it did
  pub agree : Agree closed first

module _ (m : Meaning) (first : List ℤ) {locks : List LockRecord} {journal : List Image} {cells : List ℤ} {opened : ℕ → Bool} {log : ℕ → List Deed} {closed : List Deed} (was : Replaying m first locks journal cells opened log closed) where
  -- a call that leaves deeds, images and cells as they are, and takes no lock away
  pub replaying_still : (locks' : List LockRecord) (opened' : ℕ → Bool) (log' : ℕ → List Deed) → ((r : LockRecord) → ContainsAt locks r → ContainsAt locks' r) → ((k : ℕ) → opened' k ≡ true → opened k ≡ true) → ((k : ℕ) → log' k ≡ log k) → Replaying m first locks' journal cells opened' log' closed
  replaying_still locks' opened' log' stay before same = record {
    images = All-weaker (Writable m locks) (Writable m locks') (λ n w. reaches_more locks' w (λ r e. stay r)) journal was.images;
    touched = λ k o. rw (same k) (All-weaker (Touchable m locks k) (Touchable m locks' k) (λ d t. reaches_more locks' t (λ r e. stay r)) (log k) (was.touched k (before k o)));
    replays = λ k o. rw (same k) (was.replays k (before k o));
    base = was.base;
    agree = was.agree;
  }

  -- a task that does not hold a lock has no image
  no_image : (i : ℕ) → ((cell : ℕ) → Reaches m.writes locks i cell → ⊥) → own_images i journal ≡ []
  no_image i none = all_none (own_images i journal) (all_kept_if (own_image i) (λ n. ⊥) journal
      (All-weaker (Writable m locks) (λ n. own_image i n ≡ true → ⊥) (λ n w e. none n.cell (subst (λ t. Reaches m.writes locks t n.cell) (eqb-true n.task i e) w)) journal was.images))

  -- a task without locks arrives
  pub replaying_arrive : (i : ℕ) (opened' : ℕ → Bool) (log' : ℕ → List Deed) → ((cell : ℕ) → Reaches m.writes locks i cell → ⊥) → ((k : ℕ) → (i ≡ k → ⊥) → opened' k ≡ true → opened k ≡ true) → log' i ≡ [] → ((k : ℕ) → (i ≡ k → ⊥) → log' k ≡ log k) → Replaying m first locks journal cells opened' log' closed
  replaying_arrive i opened' log' none before anew same = record {
    images = was.images;
    touched = per_task (λ k. opened' k ≡ true → AllByRecursion (Touchable m locks k) (log' k)) i (λ o. rw anew tt) (λ k d o. rw (same k d) (was.touched k (before k d o)));
    replays = per_task (λ k. opened' k ≡ true → Replays (log' k) (own_images k journal) cells) i (λ o. rw (anew, no_image i none) (replays_none cells)) (λ k d o. rw (same k d) (was.replays k (before k d o)));
    base = was.base;
    agree = was.agree;
  }

  -- a task reads a cell that it may read
  pub replaying_read : (i cell : ℕ) (log' : ℕ → List Deed) → Reaches m.reads locks i cell → log' i ≡ log i ++ (got cell (get_or cells cell (pos 0)) ∷ []) → ((k : ℕ) → (i ≡ k → ⊥) → log' k ≡ log k) → Replaying m first locks journal cells opened log' closed
  replaying_read i cell log' may more same = record {
    images = was.images;
    touched = per_task (λ k. opened k ≡ true → AllByRecursion (Touchable m locks k) (log' k)) i
        (λ o. rw more (All-push (Touchable m locks i) (log i) (got cell (get_or cells cell (pos 0))) (was.touched i o) (reads_touches m may)))
        (λ k d o. rw (same k d) (was.touched k o));
    replays = per_task (λ k. opened k ≡ true → Replays (log' k) (own_images k journal) cells) i (λ o. rw more (replays_read (log i) (own_images i journal) cells cell (was.replays i o))) (λ k d o. rw (same k d) (was.replays k o));
    base = was.base;
    agree = was.agree;
  }

  -- a task's instance ends: its locks and images leave, the other tasks' deeds replay on what the cells become, and what is put back is what the closed instances then leave
  replaying_end : (i : ℕ) (cells' : List ℤ) (opened' : ℕ → Bool) (log' : ℕ → List Deed) (closed' : List Deed) → ((k : ℕ) → opened' k ≡ true → (i ≡ k → ⊥) × (opened k ≡ true)) → ((k : ℕ) → log' k ≡ log k) → ((k : ℕ) → (i ≡ k → ⊥) → opened k ≡ true → Replays (log k) (own_images k journal) cells') → put_back (others_images i journal) cells' ≡ done closed' first → Agree closed' first → Replaying m first (filter (λ r. not (own_lock i r)) locks) (others_images i journal) cells' opened' log' closed'
  replaying_end i cells' opened' log' closed' before same on base' agree' = record {
    images = all_kept_if (λ n. not (own_image i n)) (Writable m locks') journal
        (All-weaker (Writable m locks) (λ n. not (own_image i n) ≡ true → Writable m locks' n) (λ n w e. reaches_more locks' w (stays n.task (λ f. eqb-false n.task i (not-true (own_image i n) e) (sym f)))) journal was.images);
    touched = λ k o. rw (same k) (All-weaker (Touchable m locks k) (Touchable m locks' k) (λ d t. reaches_more locks' t (stays k (before k o).0)) (log k) (was.touched k (before k o).1));
    replays = λ k o. rw (same k, kept_by_wider (own_image k) (λ n. not (own_image i n)) (λ n. own_not i k n (before k o).0) journal) (on k (before k o).0 (before k o).1);
    base = base';
    agree = agree';
  }
    where
      locks' : List LockRecord
      locks' = filter (λ r. not (own_lock i r)) locks

      stays : (k : ℕ) → (i ≡ k → ⊥) → (r : LockRecord) → r.task ≡ k → ContainsAt locks r → ContainsAt locks' r
      stays k d r e h = kept_has (λ l. not (own_lock i l)) locks r h (not_from_false (own_lock i r) (ne_eqb r.task i (λ f. d (sym f ∙ e))))

  module _ (apart : Apart m locks) where
    -- another task has no image of a cell that a task may write
    foreign_images : (i cell : ℕ) (p : Image → Bool) → Reaches m.writes locks i cell → ((n : Image) → p n ≡ true → i ≡ n.task → ⊥) → (images : List Image) → AllByRecursion (Writable m locks) images → NoImage (filter p images) cell
    foreign_images i cell p w other images h = all_kept_if p (λ n. n.cell ≡ cell → ⊥) images
        (All-weaker (Writable m locks) (λ n. p n ≡ true → n.cell ≡ cell → ⊥) (λ n v e at. apart i n.task cell (other n e) w (writes_touches m (subst (Reaches m.writes locks n.task) at v))) images h)

    -- and no deed
    foreign_deeds : (i k cell : ℕ) → Reaches m.writes locks i cell → (i ≡ k → ⊥) → (ds : List Deed) → AllByRecursion (Touchable m locks k) ds → NoDeed ds cell
    foreign_deeds i k cell w other ds h =
        All-weaker (Touchable m locks k) (λ d. deed_cell d ≡ cell → ⊥) (λ d t at. apart i k cell other w (subst (Reaches (touches m) locks k) at t)) ds h

    -- the images of a task are of other cells than those of the others
    parted : (i : ℕ) (images : List Image) → AllByRecursion (Writable m locks) images → Parted (own_image i) images
    parted i [] h = tt
    parted i (n ∷ images) h = (λ e. foreign_images n.task n.cell (λ l. not (own_image i l)) h.0 (λ l f at. eqb-false l.task i (not-true (own_image i l) f) (sym at ∙ eqb-true n.task i e)) images h.1, parted i images h.1)

    -- a task writes a cell that it may write
    pub replaying_write : (i cell : ℕ) (v : ℤ) (log' : ℕ → List Deed) → Reaches m.writes locks i cell → log' i ≡ log i ++ (put cell v ∷ []) → ((k : ℕ) → (i ≡ k → ⊥) → log' k ≡ log k) → Replaying m first locks (journal ++ (record { task = i; cell = cell; old = get_or cells cell (pos 0) } ∷ [])) (set cells cell v) opened log' closed
    replaying_write i cell v log' may more same = record {
      images = All-push (Writable m locks) journal image was.images may;
      touched = per_task (λ k. opened k ≡ true → AllByRecursion (Touchable m locks k) (log' k)) i
          (λ o. rw more (All-push (Touchable m locks i) (log i) (put cell v) (was.touched i o) (writes_touches m may)))
          (λ k d o. rw (same k d) (was.touched k o));
      replays = per_task (λ k. opened k ≡ true → Replays (log' k) (own_images k (journal ++ (image ∷ []))) (set cells cell v)) i
          (λ o. rw (more, own_pushed i (eq-eqb i i refl)) (replays_write (log i) (own_images i journal) cells i cell v (was.replays i o)))
          (λ k d o. rw (same k d, not_pushed k (ne_eqb i k d)) (replays_set (log k) (own_images k journal) cells cell v (foreign_deeds i k cell may d (log k) (was.touched k o)) (foreign_images i cell (own_image k) may (λ n e f. d (f ∙ eqb-true n.task k e)) journal was.images) (was.replays k o)));
      base = put_back_write journal i cell cells v ∙ was.base;
      agree = was.agree;
    }
      where
        image : Image
        image = record { task = i; cell = cell; old = get_or cells cell (pos 0) }

        own_pushed : (k : ℕ) → eqb i k ≡ true → own_images k (journal ++ (image ∷ [])) ≡ own_images k journal ++ (image ∷ [])
        own_pushed k e = filter-append (own_image k) journal (image ∷ []) ∙ ap (λ l. own_images k journal ++ l) (cond-true (eqb i k) (image ∷ []) [] e)

        not_pushed : (k : ℕ) → eqb i k ≡ false → own_images k (journal ++ (image ∷ [])) ≡ own_images k journal
        not_pushed k e = filter-append (own_image k) journal (image ∷ []) ∙ (ap (λ l. own_images k journal ++ l) (cond-false (eqb i k) (image ∷ []) [] e) ∙ append-nil (own_images k journal))

    -- a task closes: its instance is the next of those run whole
    pub replaying_close : (i : ℕ) (opened' : ℕ → Bool) (log' : ℕ → List Deed) → opened i ≡ true → ((k : ℕ) → opened' k ≡ true → (i ≡ k → ⊥) × (opened k ≡ true)) → ((k : ℕ) → log' k ≡ log k) → Replaying m first (filter (λ r. not (own_lock i r)) locks) (others_images i journal) cells opened' log' (closed ++ log i)
    replaying_close i opened' log' is_open before same = replaying_end i cells opened' log' (closed ++ log i) before same (λ k d. was.replays k)
        (sym (done_append closed (log i) first ∙ (ap (done (log i)) start ∙ (done_put_back (log i) others (put_back own cells) untouched ∙ ap (put_back others) (was.replays i is_open).leave))))
        (agree_append closed (log i) first was.agree (rw start (agree_put_back (log i) others (put_back own cells) untouched (was.replays i is_open).agree)))
      where
        own : List Image
        own = own_images i journal

        others : List Image
        others = others_images i journal

        start : done closed first ≡ put_back others (put_back own cells)
        start = sym (put_back_parted (own_image i) journal cells (parted i journal was.images) ∙ was.base)

        untouched : AllByRecursion (λ (n : Image). NoDeed (log i) n.cell) others
        untouched = all_kept_if (λ n. not (own_image i n)) (λ n. NoDeed (log i) n.cell) journal
            (All-weaker (Writable m locks) (λ n. not (own_image i n) ≡ true → NoDeed (log i) n.cell) (λ n w e. foreign_deeds n.task i n.cell w (eqb-false n.task i (not-true (own_image i n) e)) (log i) (was.touched i is_open)) journal was.images)

    -- a task is dropped: its images are put back, and no closed instance is added
    pub replaying_drop : (i : ℕ) (opened' : ℕ → Bool) (log' : ℕ → List Deed) → ((k : ℕ) → opened' k ≡ true → (i ≡ k → ⊥) × (opened k ≡ true)) → ((k : ℕ) → log' k ≡ log k) → Replaying m first (filter (λ r. not (own_lock i r)) locks) (others_images i journal) (put_back (own_images i journal) cells) opened' log' closed
    replaying_drop i opened' log' before same = replaying_end i (put_back (own_images i journal) cells) opened' log' closed before same
        (λ k d o. replays_put_back (log k) (own_images k journal) (own_images i journal) cells (untouched k d o) (was.replays k o))
        (put_back_parted (own_image i) journal cells (parted i journal was.images) ∙ was.base)
        was.agree
      where
        untouched : (k : ℕ) → (i ≡ k → ⊥) → opened k ≡ true → AllByRecursion (λ (n : Image). NoDeed (log k) n.cell × NoImage (own_images k journal) n.cell) (own_images i journal)
        untouched k d o = all_kept_if (own_image i) (λ n. NoDeed (log k) n.cell × NoImage (own_images k journal) n.cell) journal
            (All-weaker (Writable m locks) (λ n. own_image i n ≡ true → NoDeed (log k) n.cell × NoImage (own_images k journal) n.cell)
            (λ n w e. let other = (λ (f : n.task ≡ k). d (sym (eqb-true n.task i e) ∙ f)) in
            (foreign_deeds n.task k n.cell w other (log k) (was.touched k o), foreign_images n.task n.cell (own_image k) w (λ l f g. other (g ∙ eqb-true l.task k f)) journal was.images)) journal was.images)
