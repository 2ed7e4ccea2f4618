-- The rows that a store is told, call by call, are those of a batch that may be stored together. Assumes nothing.
use Rattle.std.specs.Prelude.{if◌then◌else◌, Ok, Result}
use Prim.Native.Nat.{ℕ, zero, suc, ◌+◌, ◌*◌, ◌/◌, ◌≤◌, ◌<◌}
use native.Mathlib.Omega.{arith}
use mathlib.Core.Path.{◌≡◌, refl, sym, ap, ap₂, ◌∙◌}
use mathlib.Core.Logic.{◌⊎◌, inl, inr}
use mathlib.Core.Bool.{Bool, true, false, ◌||◌, or_assoc, or_comm}
use mathlib.Core.List.{List, [], ◌∷◌, ◌++◌, append-nil, append_assoc}
use lib.Dec.{ltb}
use lib.ListN.{length, get_or, take}
use lib.Seq.{take-suc}
use borrow.Author.Tests.{ltb-false}
use Rattle.choice.proofs.Tests.{true-not-false, or-false, or-true}
use Rattle.units.specs.Units.{UnitStore}
use Rattle.units.specs.Plan.{Plan, refused, units, plan_units}
use Rattle.qcow2_spec.specs.Disk.{Request, plan_of}
use Rattle.qcow2_spec.specs.Steps.{Extent, extents, covers, extents_in, brought}
use Rattle.qcow2_spec.proofs.Extents.{covers_append}
use Rattle.qcow2_spec.proofs.Series.{each_same}
use Rattle.qcow2_batches.specs.Batch.{clash, call_phase, ready_after, ran, memory, batch_phase, batch_phases, Allowed}
use Rattle.qcow2_batches.specs.Rows.{rows_in, new_rows, must_end, answered, rows_after, rows_left}
use Rattle.qcow2_batches.specs.Told.{Told, RowsBatch, rows_below, StoreBrought}
use Rattle.qcow2_batches.specs.declared.Planned.{Planned}
use Rattle.qcow2_batches.specs.declared.Planned.TheVariants.{Ends, Rows}
use Rattle.qcow2_batches.proofs.Covers.{Alike, covers-units, clash-none, clash-apart, in_alike}
use Rattle.qcow2_batches.proofs.Plain.{rows_in-after, after-room, covers-plain, length_new, new_in}
use Rattle.qcow2_batches.proofs.Stores.{batch_brought}

-- ---- one call
pub call_alike : (p : ℕ) (s : List ℕ) (ys zs : List Extent) → Alike ys zs → (us : List UnitStore) → call_phase p s ys us ≡ call_phase p s zs us
unfolding call_phase
call_alike zero s ys zs h us = refl
call_alike (suc p) s ys zs h us = in_alike (suc p) s ys zs h _

-- k of the rows are held, a p has the bytes of those of phase p, and none of these is both of phase 1 and of phase 3
record Held (k : ℕ) (rows : List ℕ) (a : ℕ → List Extent) : Type 0 where
  room : 4 * k ≤ length rows
  alike : (p : ℕ) → p < 4 → Alike (rows_in p k rows) (a p)
  apart : (x : ℕ) → covers (a 1) x ≡ true → covers (a 3) x ≡ true → ⊥

held_alike : {k : ℕ} {rows : List ℕ} {a b : ℕ → List Extent} → ((p : ℕ) → Alike (a p) (b p)) → Held k rows a → Held k rows b
held_alike f h =
    record { room = h.room; alike = λ p l x. h.alike p l x ∙ f p x; apart = λ x y z. h.apart x (f 1 x ∙ y) (f 3 x ∙ z) }

-- a call is told its rows where it may join the batch
told-units : (s : List ℕ) (us : List UnitStore) (k : ℕ) (rows : List ℕ) (j : ℕ) → answered s (units us) k rows ≡ Ok (Rows j)
    → (must_end s us k rows ≡ false) × (j ≡ k + length (new_rows s (rows_in 1 k rows) us) / 4)
unfolding answered
told-units s us k rows j e = go (must_end s us k rows) e
  where
    go : (b : Bool) → ◌≡◌ {A = Result Planned ℕ} (if b then Ok Ends else Ok (Rows (k + length (new_rows s (rows_in 1 k rows) us) / 4))) (Ok (Rows j))
        → (b ≡ false) × (j ≡ k + length (new_rows s (rows_in 1 k rows) us) / 4)
    go true q = absurd (let z : ◌≡◌ {A = ℕ} 0 1 = cc in omega arith)
    go false q = (refl, cc)

module _ (s : List ℕ) (us : List UnitStore) (k : ℕ) (rows : List ℕ) (a : ℕ → List Extent) (h : Held k rows a) (joins : must_end s us k rows ≡ false) where
  abbrev ready : List Extent
  ready = rows_in 1 k rows

  abbrev new : List ℕ
  new = new_rows s ready us

  -- the call's own bytes of a phase
  abbrev own : ℕ → List Extent
  own p = extents (call_phase p s ready us)

  may : (ltb (length rows / 4) (k + length new / 4) ≡ false) × (clash (own 1 ++ ready) (own 3) ≡ false) × (clash (own 1) (rows_in 3 k rows) ≡ false)
  unfolding must_end
  may =
      let t = or-false (ltb (length rows / 4) (k + length new / 4) || clash (own 1 ++ ready) (own 3)) (clash (own 1) (rows_in 3 k rows)) joins in
      let u = or-false (ltb (length rows / 4) (k + length new / 4)) (clash (own 1 ++ ready) (own 3)) t.0 in (u.0, u.1, t.1)

  fits : 4 * (k + length new / 4) ≤ length rows
  fits = let l = ltb-false (length rows / 4) (k + length new / 4) may.0 in omega arith

  own-apart : (x : ℕ) → covers (own 1 ++ a 1) x ≡ true → covers (own 3 ++ a 3) x ≡ true → ⊥
  own-apart x p q = go (or-true (covers (own 3) x) (covers (a 3) x) (sym (covers_append (own 3) (a 3) x) ∙ q))
    where
      here : covers (own 1 ++ ready) x ≡ true
      here = covers_append (own 1) ready x ∙ ap (λ (b : Bool). covers (own 1) x || b) (h.alike 1 (omega arith) x) ∙ sym (covers_append (own 1) (a 1) x) ∙ p

      old : covers (a 3) x ≡ true → (covers (own 1) x ≡ true) ⊎ (covers (a 1) x ≡ true) → ⊥
      old e (inl f) = clash-none (own 1) (rows_in 3 k rows) may.2 x f (h.alike 3 (omega arith) x ∙ e)
      old e (inr f) = h.apart x f e

      go : (covers (own 3) x ≡ true) ⊎ (covers (a 3) x ≡ true) → ⊥
      go (inl e) = clash-none (own 1 ++ ready) (own 3) may.1 x here e
      go (inr e) = old e (or-true (covers (own 1) x) (covers (a 1) x) (sym (covers_append (own 1) (a 1) x) ∙ p))

  held-own : Held (k + length new / 4) (rows_after k rows new) (λ p. own p ++ a p)
  held-own =
      record {
        room = after-room k (length new / 4) rows new (length_new s ready us) fits;
        alike = λ p l x. ap (λ (ys : List Extent). covers ys x) (rows_in-after k (length new / 4) rows new (length_new s ready us) fits p)
            ∙ covers_append (rows_in p k rows) (rows_in p (length new / 4) new) x ∙ ap₂ (λ (c d : Bool). c || d) (h.alike p l x) (ap (λ (ys : List Extent). covers ys x) (new_in s ready us p l) ∙ covers-plain (own p) x)
            ∙ or_comm (covers (a p) x) (covers (own p) x) ∙ sym (covers_append (own p) (a p) x);
        apart = own-apart;
      }

-- the rows held once it is planned; a refused one is told none
held_call : (s : List ℕ) (q : Plan) (k : ℕ) (rows : List ℕ) (a : ℕ → List Extent) → Held k rows a → (j : ℕ) → answered s q k rows ≡ Ok (Rows j)
    → Held j (rows_left s q k rows) (λ p. extents (call_phase p s (a 1) (plan_units q)) ++ a p)
unfolding answered rows_left plan_units
held_call s (refused n) k rows a h j e = absurd (let z : ◌≡◌ {A = ℕ} 0 1 = cc in omega arith)
held_call s (units us) k rows a h j e =
    let t = told-units s us k rows j e in
    rw t.1
    (held_alike (λ p x. ap (λ (vs : List UnitStore). covers (extents vs ++ a p) x) (call_alike p s (rows_in 1 k rows) (a 1) (h.alike 1 (omega arith)) us)) (held-own s us k rows a h t.0))

-- ---- all calls
or_turn : (a b c : Bool) → (a || (b || c)) ≡ ((b || a) || c)
or_turn a b c = sym (or_assoc a b c) ∙ ap (λ (d : Bool). d || c) (or_comm a b)

held_all : (backing s : List ℕ) (k : ℕ) (rows : List ℕ) (rs : List Request) (n : ℕ) (now : List ℕ) (a : ℕ → List Extent) → Held k rows a → Told backing s k rows rs n now
    → Held n now (λ p. extents (batch_phase p backing s (a 1) rs) ++ a p)
unfolding Told batch_phase ready_after extents
held_all backing s k rows [] n now a h t = rw (t.0, t.1) h
held_all backing s k rows (r ∷ rs) n now a h t =
    held_alike together (held_all backing (ran backing s r) t.0 _ rs n now _ (held_call s (plan_of backing s r) k rows a h t.0 t.1) t.2)
  where
    us : List UnitStore
    us = plan_units (plan_of backing s r)

    rest : ℕ → List UnitStore
    rest p = batch_phase p backing (ran backing s r) (ready_after s (a 1) us) rs

    together : (p : ℕ) → Alike (extents (rest p) ++ (extents (call_phase p s (a 1) us) ++ a p)) (extents (call_phase p s (a 1) us ++ rest p) ++ a p)
    together p x =
        covers_append (extents (rest p)) _ x ∙ ap (λ (b : Bool). covers (extents (rest p)) x || b) (covers_append (extents (call_phase p s (a 1) us)) (a p) x)
        ∙ or_turn (covers (extents (rest p)) x) (covers (extents (call_phase p s (a 1) us)) x) (covers (a p) x)
        ∙ ap (λ (b : Bool). b || covers (a p) x) (sym (covers-units (call_phase p s (a 1) us) (rest p) x)) ∙ sym (covers_append (extents (call_phase p s (a 1) us ++ rest p)) (a p) x)

held_none : (rows : List ℕ) → Held 0 rows (λ p. [])
unfolding rows_in covers
held_none rows = record { room = omega arith; alike = λ p l x. refl; apart = λ x y z. true-not-false y refl }

pub rows_batch : RowsBatch
unfolding Allowed
rows_batch backing s rows rs n now t = (clash-apart _ _ whole.apart, λ p x l. whole.alike p l x)
  where
    whole : Held n now (λ p. extents (batch_phase p backing s [] rs))
    whole = held_alike (λ p x. ap (λ (ys : List Extent). covers ys x) (append-nil _)) (held_all backing s 0 rows rs n now (λ p. []) (held_none rows) t)

-- ---- a store that brings the rows' bytes
-- the phases of a list, one more
extents_in_append : (es fs : List (List UnitStore)) → extents_in (es ++ fs) ≡ extents_in es ++ extents_in fs
unfolding extents_in
extents_in_append [] fs = refl
extents_in_append (us ∷ es) fs = rw (extents_in_append es fs) (sym (append_assoc (extents us) (extents_in es) (extents_in fs)))

extents_in-next : (es : List (List UnitStore)) (e : ℕ) → e < length es → extents_in (take (suc e) es) ≡ extents_in (take e es) ++ extents (get_or es e [])
unfolding extents_in
extents_in-next es e h = ap extents_in (take-suc es e [] h) ∙ extents_in_append (take e es) _ ∙ rw append-nil

-- what is brought goes by the bytes alone
brought_alike : (ys zs : List Extent) → Alike ys zs → (s t : List ℕ) → brought ys s t ≡ brought zs s t
unfolding brought
brought_alike ys zs h s t = each_same _ _ (length s) 0 (λ x l m. ap (λ (b : Bool). if b then get_or t x 0 else get_or s x 0) (h x))

module _ (backing s : List ℕ) (rs : List Request) (n : ℕ) (now : List ℕ) (same : (p x : ℕ) → p < 4 → covers (rows_in p n now) x ≡ covers (extents (batch_phase p backing s [] rs)) x) where
  phase_at : (e : ℕ) → e < 4 → (e < length (batch_phases backing s rs)) × (batch_phase e backing s [] rs ≡ get_or (batch_phases backing s rs) e [])
  unfolding batch_phases
  phase_at zero h = (omega arith, refl)
  phase_at (suc zero) h = (omega arith, refl)
  phase_at (suc (suc zero)) h = (omega arith, refl)
  phase_at (suc (suc (suc zero))) h = (omega arith, refl)
  phase_at (suc (suc (suc (suc e)))) h = absurd (omega arith)

  below_alike : (e : ℕ) → e ≤ 4 → Alike (rows_below e n now) (extents_in (take e (batch_phases backing s rs)))
  unfolding rows_below extents_in
  below_alike zero h x = refl
  below_alike (suc e) h x =
      let i = phase_at e h in
      covers_append (rows_below e n now) (rows_in e n now) x
      ∙ ap₂ (λ (c d : Bool). c || d) (below_alike e (omega arith) x) (same e x h ∙ ap (λ (us : List UnitStore). covers (extents us) x) i.1)
      ∙ sym (covers_append (extents_in (take e (batch_phases backing s rs))) _ x) ∙ ap (λ (ys : List Extent). covers ys x) (sym (extents_in-next (batch_phases backing s rs) e i.0))

pub store_brought : StoreBrought
store_brought backing s bb by h rs sm rows n now t e l =
    let r = rows_batch backing s rows rs n now t in
    brought_alike _ _ (below_alike backing s rs n now r.1 e l) s (memory backing s rs) ∙ sym (batch_brought backing s bb by h rs sm r.0 e)
