-- What a listing answers and leaves, by the plan. Assumes nothing.
use Rattle.std.specs.Prelude.{Err, Ok}
use Prim.Native.Nat.{ℕ, ◌*◌, ◌/◌, ◌<◌, min}
use native.Mathlib.Nat.{min-zero}
use native.Mathlib.Omega.{arith}
use mathlib.Core.Path.{◌≡◌, refl, sym, ap, ◌∙◌}
use mathlib.Core.List.{List, [], ◌∷◌, ◌++◌, append-nil}
use lib.ListN.{length}
use lib.Seq.{take-nil, drop-nil, take-append_seam, drop-append_seam}
use Rattle.choice.proofs.Each.{length-each}
use Rattle.endian.specs.Big.{splice}
use Rattle.units.specs.Units.{UnitStore}
use Rattle.units.specs.Plan.{Plan, refused, units, plan_units}
use Rattle.qcow2_spec.specs.Header.{cluster_size}
use Rattle.qcow2_spec.specs.Store.{clear_units, clearing, backing_cluster}
use Rattle.qcow2_spec.specs.Flush.{stores_entry, halves, epochs}
use Rattle.qcow2_spec.specs.Steps.{extents, rows_of, step_rows, steps, list_steps, rows_put, steps_into, Listing}
use Rattle.qcow2_spec.specs.Check.{repair_units}
use Rattle.qcow2_spec.proofs.Flush.{halves-none}
use Rattle.qcow2_spec.proofs.Units.{repair-plain}
use Rattle.qcow2_rows.specs.Rows.{Put, Puts}
use Rattle.qcow2_rows.proofs.Laws.{puts_then}

-- ---- no rows
put-none : (out : List ℕ) → rows_put out [] ≡ out
unfolding rows_put splice
put-none out = rw take-nil

steps-none : (s : List ℕ) → step_rows 0 (epochs s []) ≡ []
unfolding epochs step_rows rows_of extents stores_entry
steps-none s = rw (take-nil, drop-nil, halves-none [] refl)

module _ (s : List ℕ) (p : Plan) (out : List ℕ) where
  pub list_refused : (k : ℕ) → p ≡ refused k → Listing s p out (Err k) out
  unfolding list_steps steps_into steps plan_units
  list_refused k e = rw e (record { answer = refl; left = rw (steps-none s) (sym (put-none out)) })

  pub list_none : p ≡ units [] → Listing s p out (Ok 0) out
  unfolding list_steps steps_into steps plan_units
  list_none e = rw e (record { answer = rw (steps-none s, min-zero); left = rw (steps-none s) (sym (put-none out)) })

-- ---- the clearing unit's row, and then those of the others
steps-some : (s : List ℕ) (us : List UnitStore) → steps s (units (clear_units s ++ us)) ≡ rows_of 0 (extents (clear_units s)) ++ step_rows 1 (halves us)
unfolding steps plan_units epochs step_rows
steps-some s us = rw (take-append_seam (clear_units s) us, drop-append_seam (clear_units s) us)

-- rows that are put in front of all
pub put_all : (new out now : List ℕ) (r : ℕ) → Puts new out 0 now r → Put out new now r
put_all new out now r f = f out [] (record { put = sym (put-none out); many = refl })

pub list_units : (s : List ℕ) (us : List UnitStore) (out t now : List ℕ) (k n r : ℕ) → Puts (rows_of 0 (extents (clear_units s))) out 0 t k → Puts (step_rows 1 (halves us)) t k now n
    → length now ≡ length out → r ≡ min (length now / 4) n → Listing s (units (clear_units s ++ us)) out (Ok r) now
unfolding list_steps steps_into
list_units s us out t now k n r f g e h =
    let p = put_all _ out now n (puts_then f g) in
    let m : length (rows_of 0 (extents (clear_units s)) ++ step_rows 1 (halves us)) / 4 ≡ n = omega (arith, p.many) in
    record { answer = rw (steps-some s us, m, ← e) (ap Ok h); left = rw (steps-some s us) p.put }

-- a repair's units are counts alone, all in epoch 1
pub rows-repair : (s fs : List ℕ) (n : ℕ) → step_rows 1 (halves (repair_units s fs 0 n)) ≡ rows_of 1 (extents (repair_units s fs 0 n))
unfolding step_rows rows_of extents
rows-repair s fs n = rw (halves-none (repair_units s fs 0 n) (repair-plain s fs 0 n)) (append-nil _)

-- ---- a plan that the clearing unit is put before
module _ (s : List ℕ) (p : Plan) where
  pub clearing-refused : (k : ℕ) → p ≡ refused k → clearing s p ≡ refused k
  unfolding clearing
  clearing-refused k e = rw e

  pub clearing-none : p ≡ units [] → clearing s p ≡ units []
  unfolding clearing
  clearing-none e = rw e

  pub clearing-some : (us : List UnitStore) → p ≡ units us → 0 < length us → clearing s p ≡ units (clear_units s ++ us)
  unfolding clearing
  clearing-some [] e h = absurd (omega arith)
  clearing-some (u ∷ us) e h = rw e

-- ---- what lies under a guest cluster has a cluster's bytes
pub length_backing : (backing s : List ℕ) (x c : ℕ) → c ≡ cluster_size s → length (backing_cluster backing s x) ≡ c
unfolding backing_cluster
length_backing backing s x c e = length-each _ (x * cluster_size s) (cluster_size s) ∙ sym e
