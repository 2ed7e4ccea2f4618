-- What every call answers and leaves where the image is accepted. Assumes nothing.
use Rattle.std.specs.Prelude.{Ok}
use Prim.Native.Nat.{ℕ}
use mathlib.Core.Path.{◌≡◌, refl}
use mathlib.Core.List.{List}
use Rattle.units.specs.Plan.{Plan}
use Rattle.qcow2_spec.specs.declared.Geometry.{Geometry}
use Rattle.qcow2_spec.specs.Header.{some_lent, judge}
use Rattle.qcow2_spec.specs.Opened.{opened, Active}
use Rattle.qcow2_spec.specs.Guest.{translated, translate, range_number, range_into, read_number, read_into, found_part, in_place}
use Rattle.qcow2_spec.specs.Runs.{runs_listed, runs_put, list_runs, runs_into}
use Rattle.qcow2_spec.specs.Store.{clearing, judged, write_list, write_plan, discard_list, discard_plan}
use Rattle.qcow2_spec.specs.References.{scratch_counted, scratch_left}
use Rattle.qcow2_spec.specs.Check.{checked, check, repair_list, repair_plan}
use Rattle.qcow2_spec.proofs.Open.{accepted-is}

module _ (backing s : List ℕ) (g : Geometry) (e : opened (some_lent backing) s ≡ Ok g) where
  pub active : Active g s
  active = (accepted-is (some_lent backing) s g e).1

  ok : judge backing s ≡ 0
  unfolding judge
  ok = (accepted-is (some_lent backing) s g e).0

  pub translate-taken : (x : ℕ) → translated s x ≡ translate backing s x
  unfolding translate
  translate-taken x = rw ok refl

  pub number-taken : (t x len : ℕ) → range_number s t x len ≡ read_number backing s t x len
  unfolding read_number
  number-taken t x len = rw ok refl

  pub into_taken : (t x : ℕ) (o : List ℕ) → range_into backing s t x o ≡ read_into backing s t x o
  unfolding read_into
  into_taken t x o = rw ok refl

  pub place-taken : (x : ℕ) → found_part s x (translated s x) ≡ in_place backing s x
  unfolding in_place
  place-taken x = rw (translate-taken x) refl

  pub runs_taken : (x len n : ℕ) → runs_listed s 0 x len n ≡ list_runs backing s 0 x len n
  unfolding list_runs
  runs_taken x len n = rw ok refl

  pub rows_taken : (x len : ℕ) (o : List ℕ) → runs_put s 0 x len o ≡ runs_into backing s 0 x len o
  unfolding runs_into
  rows_taken x len o = rw ok refl

  pub check-taken : (n : ℕ) → checked s n ≡ check backing s n
  unfolding check
  check-taken n = rw ok refl

  pub scratch-taken : (scratch : List ℕ) → scratch_counted s scratch ≡ scratch_left backing s scratch
  unfolding scratch_left
  scratch-taken scratch = rw ok refl

  judged-taken : (p : Plan) → clearing s p ≡ judged backing s p
  unfolding judged
  judged-taken p = rw ok refl

  pub write-taken : (x : ℕ) (d : List ℕ) → clearing s (write_list backing s x d) ≡ write_plan backing s x d
  unfolding write_plan
  write-taken x d = judged-taken _

  pub discard-taken : (c : ℕ) → clearing s (discard_list s c) ≡ discard_plan backing s c
  unfolding discard_plan
  discard-taken c = judged-taken _

  pub repair-taken : (n : ℕ) → clearing s (repair_list s n) ≡ repair_plan backing s n
  unfolding repair_plan
  repair-taken n = judged-taken _
