-- A use counts at the entry of its object and mode, and nowhere else.
use Rattle.std.proofs.Common.{◌≡◌, ℕ, ◌<◌, min, cond, List, [], ◌∷◌, ◌++◌, length, get_or, set, replicate, take, refl, sym, ap, ◌∙◌, inl, inr, arith}
use Rattle.std.proofs.lemmas.Bool.{cases_Bool, cases_lt, cases_eq, eq-eqb, ne_eqb}
use Rattle.std.proofs.lemmas.Grind.{get_or_default_zero}
use Rattle.std.proofs.lemmas.List.{length-set, get_or-set_same, get_or-set_other, get_or-replicate, get_or_past, length-replicate, take_more}
use Rattle.std.proofs.lemmas.List.Elements.{All-set}
use Rattle.plans.specs.Contents.{no_use}
use Rattle.plans.specs.declared.parts.Use.{Use}
use Rattle.charts.specs.Users.{entry, is_of, highest_user}
use Rattle.charts.proofs.lookups.users_of.Goals as goal

blank : (n i a : ℕ) → get_or (replicate n a) i a ≡ a
blank n i a = elim (cases_lt i n) [ inl inside ↦ get_or-replicate n i a a inside | inr past ↦ get_or_past (replicate n a) i a (omega (arith, length-replicate n a)) ]

none_yet : (object mode : ℕ) → entry (replicate 32 (replicate 8 16)) object mode ≡ 16
none_yet object mode = elim (cases_lt object 32) [
  | inl inside ↦ ap (λ row. get_or row mode 16) (get_or-replicate 32 object (replicate 8 16) [] inside) ∙ blank 8 mode 16
  | inr past ↦ ap (λ row. get_or row mode 16) (get_or_past (replicate 32 (replicate 8 16)) object [] past)
]

module _ (users : List (List ℕ)) (highest : ℕ → ℕ → ℕ) (each : (object mode : ℕ) → entry users object mode ≡ highest object mode) (u : Use) (there : u.object < length users) (in_row : u.mode < length (get_or users u.object [])) where
  abbrev row : List ℕ
  row = get_or users u.object []

  counted : (least object mode : ℕ) → least ≡ min u.task (highest u.object u.mode) → entry (set users u.object (set row u.mode least)) object mode ≡ cond (is_of object mode u) (min u.task (highest object mode)) (highest object mode)
  counted least object mode least_is = elim (cases_eq u.object object) [
    | inl same ↦ elim (cases_eq u.mode mode) [
      | inl here ↦ rw (eq-eqb u.object object same, eq-eqb u.mode mode here, ← same, ← here, get_or-set_same users u.object (set row u.mode least) [] there, get_or-set_same row u.mode least 16 in_row) least_is
      | inr other ↦ rw (eq-eqb u.object object same, ne_eqb u.mode mode other, ← same, get_or-set_same users u.object (set row u.mode least) [] there, get_or-set_other row u.mode mode least 16 (λ e. other (sym e))) (each u.object mode)
    ]
    | inr other ↦ rw (ne_eqb u.object object other, get_or-set_other users u.object object (set row u.mode least) [] (λ e. other (sym e))) (each object mode)
  ]

highest_more : (us : List Use) (u : Use) (object mode : ℕ) → highest_user (us ++ u ∷ []) object mode ≡ cond (is_of object mode u) (min u.task (highest_user us object mode)) (highest_user us object mode)
highest_more [] u object mode = refl
highest_more (v ∷ us) u object mode = let rest = highest_more us u object mode in
    elim (cases_Bool (is_of object mode v)) [
      | inl met ↦ elim (cases_Bool (is_of object mode u)) [ inl here ↦ rw (met, rest, here) (omega arith) | inr other ↦ rw (met, rest, other) ]
      | inr unmet ↦ rw (unmet, rest)
    ]

pub loop-u-init : goal.loop-u-init
loop-u-init c = record { long = refl; rows = λ k d inside. ap length (get_or-replicate 32 k (replicate 8 16) d inside); each = none_yet }

pub loop-u-preserved : goal.loop-u-preserved
loop-u-preserved c =
    let users = c.loop-u.users in
    let known = c.loop-u.invariant in
    let before = take c.loop-u.u-index c.args.uses.now in
    let u = get_or c.args.uses.now c.loop-u.u-index no_use in
    let row = get_or users u.object [] in
    let fits = c.requires c.loop-u.u-index no_use c.loop-u-test.true in
    let there : u.object < length users = omega (arith, fits.0, known.long) in
    let row_long = known.rows u.object [] there in
    let in_row : u.mode < length row = omega (arith, fits.1, row_long) in
    let least_is = (rw (c.from-object.ensures, c.from-mode.ensures) at c.min.ensures) ∙ ap (min u.task) (sym (get_or_default_zero row u.mode 16 in_row) ∙ known.each u.object u.mode) in
    rw (c.from-object.ensures, c.from-mode.ensures) record {
      long = length-set users u.object (set row u.mode c.min.result) ∙ known.long;
      rows = All-set (λ row. length row ≡ 8) users u.object (set row u.mode c.min.result) (length-set row u.mode c.min.result ∙ row_long) known.rows;
      each = λ object mode.
          counted users (highest_user before) known.each u there in_row c.min.result object mode least_is
          ∙ sym (ap (λ us. highest_user us object mode) (take_more c.args.uses.now c.loop-u.u-index no_use c.loop-u-test.true) ∙ highest_more before u object mode);
    }
