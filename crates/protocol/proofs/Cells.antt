-- What putting a journal back and running deeds leave in the cells.
use Rattle.std.proofs.Common.{◌≡◌, ℕ, Bool, true, false, cond, not, List, [], ◌∷◌, ◌++◌, get_or, set, ℤ, pos, filter, sym, refl, ap, ◌∙◌}
use Rattle.std.specs.List.{AllByRecursion}
use Rattle.std.proofs.lemmas.List.{set-set, set_comm, set-get_or, get_or-set_other}
use Rattle.protocol.specs.declared.words.Image.{Image}
use Rattle.protocol.specs.Machine.{put_back}
use Rattle.protocol.specs.Lines.{Deed, got, put, done, Agree}

-- the cell that a deed reads or writes
abbrev pub deed_cell : Deed → ℕ
deed_cell (got cell v) = cell
deed_cell (put cell v) = cell

-- no image is of this cell
abbrev pub NoImage : List Image → ℕ → Type 0
NoImage journal cell = AllByRecursion (λ (m : Image). m.cell ≡ cell → ⊥) journal

-- no deed is of this cell
abbrev pub NoDeed : List Deed → ℕ → Type 0
NoDeed ds cell = AllByRecursion (λ d. deed_cell d ≡ cell → ⊥) ds

-- a write to a cell without image comes through putting back
pub put_back_set : (journal : List Image) (cells : List ℤ) (cell : ℕ) (v : ℤ) → NoImage journal cell → put_back journal (set cells cell v) ≡ set (put_back journal cells) cell v
put_back_set [] cells cell v h = refl
put_back_set (m ∷ journal) cells cell v h =
    ap (λ c. set c m.cell m.old) (put_back_set journal cells cell v h.1) ∙ set_comm (put_back journal cells) cell m.cell v m.old (λ e. h.0 (sym e))

-- the newest image is put back first
pub put_back_push : (journal : List Image) (m : Image) (cells : List ℤ) → put_back (journal ++ (m ∷ [])) cells ≡ put_back journal (set cells m.cell m.old)
put_back_push [] m cells = refl
put_back_push (n ∷ journal) m cells = ap (λ c. set c n.cell n.old) (put_back_push journal m cells)

-- a write and its image leave what is put back as it was
pub put_back_write : (journal : List Image) (task cell : ℕ) (cells : List ℤ) (v : ℤ) → put_back (journal ++ (record { task = task; cell = cell; old = get_or cells cell (pos 0) } ∷ [])) (set cells cell v) ≡ put_back journal cells
put_back_write journal task cell cells v =
    put_back_push journal (record { task = task; cell = cell; old = get_or cells cell (pos 0) }) (set cells cell v)
    ∙ ap (put_back journal) (set-set cells cell v (get_or cells cell (pos 0)) ∙ set-get_or cells cell (pos 0))

-- a write to a cell that no deed is of comes through the deeds
pub done_set : (ds : List Deed) (cells : List ℤ) (cell : ℕ) (v : ℤ) → NoDeed ds cell → done ds (set cells cell v) ≡ set (done ds cells) cell v
done_set [] cells cell v h = refl
done_set (got x w ∷ ds) cells cell v h = done_set ds cells cell v h.1
done_set (put x w ∷ ds) cells cell v h =
    ap (done ds) (set_comm cells cell x v w (λ e. h.0 (sym e))) ∙ done_set ds (set cells x w) cell v h.1

-- and no read of theirs notices it
pub agree_set : (ds : List Deed) (cells : List ℤ) (cell : ℕ) (v : ℤ) → NoDeed ds cell → Agree ds cells → Agree ds (set cells cell v)
agree_set [] cells cell v h a = tt
agree_set (got x w ∷ ds) cells cell v h a = (a.0 ∙ sym (get_or-set_other cells cell x v (pos 0) h.0), agree_set ds cells cell v h.1 a.1)
agree_set (put x w ∷ ds) cells cell v h a =
    rw (set_comm cells cell x v w (λ e. h.0 (sym e))) (agree_set ds (set cells x w) cell v h.1 a)

-- deeds one after the other
pub done_append : (ds es : List Deed) (cells : List ℤ) → done (ds ++ es) cells ≡ done es (done ds cells)
done_append [] es cells = refl
done_append (got x w ∷ ds) es cells = done_append ds es cells
done_append (put x w ∷ ds) es cells = done_append ds es (set cells x w)

-- their reads
pub agree_append : (ds es : List Deed) (cells : List ℤ) → Agree ds cells → Agree es (done ds cells) → Agree (ds ++ es) cells
agree_append [] es cells a b = b
agree_append (got x w ∷ ds) es cells a b = (a.0, agree_append ds es cells a.1 b)
agree_append (put x w ∷ ds) es cells a b = agree_append ds es (set cells x w) a b

-- what a task's deeds and images are to the cells: run on the cells with its images put back, the deeds leave the cells, and every read answers as it did
pub record Replays (ds : List Deed) (images : List Image) (cells : List ℤ) : Type 0 where
  pub leave : done ds (put_back images cells) ≡ cells
  pub agree : Agree ds (put_back images cells)

-- a task without images and deeds
pub replays_none : (cells : List ℤ) → Replays [] [] cells
replays_none cells = record { leave = refl; agree = tt }

-- one more read
pub replays_read : (ds : List Deed) (images : List Image) (cells : List ℤ) (cell : ℕ) → Replays ds images cells → Replays (ds ++ (got cell (get_or cells cell (pos 0)) ∷ [])) images cells
replays_read ds images cells cell r = record {
  leave = done_append ds (got cell (get_or cells cell (pos 0)) ∷ []) (put_back images cells) ∙ r.leave;
  agree = agree_append ds (got cell (get_or cells cell (pos 0)) ∷ []) (put_back images cells) r.agree (ap (λ c. get_or c cell (pos 0)) (sym r.leave), tt);
}

-- one more write, with its image
pub replays_write : (ds : List Deed) (images : List Image) (cells : List ℤ) (task cell : ℕ) (v : ℤ) → Replays ds images cells → Replays (ds ++ (put cell v ∷ [])) (images ++ (record { task = task; cell = cell; old = get_or cells cell (pos 0) } ∷ [])) (set cells cell v)
replays_write ds images cells task cell v r = let e = put_back_write images task cell cells v in record {
  leave = ap (done (ds ++ (put cell v ∷ []))) e ∙ (done_append ds (put cell v ∷ []) (put_back images cells) ∙ ap (λ c. set c cell v) r.leave);
  agree = rw e (agree_append ds (put cell v ∷ []) (put_back images cells) r.agree tt);
}

-- a write to a cell that is neither in the deeds nor in the images
pub replays_set : (ds : List Deed) (images : List Image) (cells : List ℤ) (cell : ℕ) (v : ℤ) → NoDeed ds cell → NoImage images cell → Replays ds images cells → Replays ds images (set cells cell v)
replays_set ds images cells cell v d m r = let e = put_back_set images cells cell v m in record {
  leave = ap (done ds) e ∙ (done_set ds (put_back images cells) cell v d ∙ ap (λ c. set c cell v) r.leave);
  agree = rw e (agree_set ds (put_back images cells) cell v d r.agree);
}

-- images of such cells are put back
pub replays_put_back : (ds : List Deed) (images others : List Image) (cells : List ℤ) → AllByRecursion (λ (m : Image). NoDeed ds m.cell × NoImage images m.cell) others → Replays ds images cells → Replays ds images (put_back others cells)
replays_put_back ds images [] cells h r = r
replays_put_back ds images (m ∷ others) cells h r =
    replays_set ds images (put_back others cells) m.cell m.old h.0.0 h.0.1 (replays_put_back ds images others cells h.1 r)

-- deeds run on cells with images of other cells put back
pub done_put_back : (ds : List Deed) (others : List Image) (cells : List ℤ) → AllByRecursion (λ (m : Image). NoDeed ds m.cell) others → done ds (put_back others cells) ≡ put_back others (done ds cells)
done_put_back ds [] cells h = refl
done_put_back ds (m ∷ others) cells h =
    done_set ds (put_back others cells) m.cell m.old h.0 ∙ ap (λ c. set c m.cell m.old) (done_put_back ds others cells h.1)

-- their reads
pub agree_put_back : (ds : List Deed) (others : List Image) (cells : List ℤ) → AllByRecursion (λ (m : Image). NoDeed ds m.cell) others → Agree ds cells → Agree ds (put_back others cells)
agree_put_back ds [] cells h a = a
agree_put_back ds (m ∷ others) cells h a = agree_set ds (put_back others cells) m.cell m.old h.0 (agree_put_back ds others cells h.1 a)

-- an image that passes is of no cell of a newer image that does not
abbrev pub Parted : (Image → Bool) → List Image → Type 0
Parted p [] = Unit {0}
Parted p (m ∷ journal) = (p m ≡ true → NoImage (filter (λ n. not (p n)) journal) m.cell) × Parted p journal

-- then those that pass may be put back first
pub put_back_parted : (p : Image → Bool) (journal : List Image) (cells : List ℤ) → Parted p journal → put_back (filter (λ n. not (p n)) journal) (put_back (filter p journal) cells) ≡ put_back journal cells
put_back_parted p [] cells h = refl
put_back_parted p (m ∷ journal) cells h = go (p m) refl (put_back_parted p journal cells h.1)
  where
    own : List Image
    own = filter p journal

    others : List Image
    others = filter (λ n. not (p n)) journal

    go : (b : Bool) → p m ≡ b → put_back others (put_back own cells) ≡ put_back journal cells → put_back (cond (not b) (m ∷ others) others) (put_back (cond b (m ∷ own) own) cells) ≡ put_back (m ∷ journal) cells
    go true e ih = put_back_set others (put_back own cells) m.cell m.old (h.0 e) ∙ ap (λ c. set c m.cell m.old) ih
    go false e ih = ap (λ c. set c m.cell m.old) ih
