-- The count of a discard does not rise. Assumes nothing.
use Rattle.std.specs.Prelude.{Ok, Some}
use Prim.Native.Nat.{ℕ, ◌/◌}
use native.Mathlib.Omega.{arith}
use mathlib.Core.Path.{◌≡◌, sym, subst}
use mathlib.Core.Bool.{◌&&◌}
use mathlib.Core.List.{List}
use lib.Dec.{eqb}
use Rattle.choice.proofs.Tests.{if_elim}
use Rattle.qcow2_spec.specs.Header.{version, cluster_size, backed}
use Rattle.qcow2_spec.specs.Entries.{place}
use Rattle.qcow2_spec.specs.Counts.{count_of, set_count}
use Rattle.qcow2_spec.specs.Store.{cleared_entry, discard_slot, discard_way}
use Rattle.qcow2_spec.specs.declared.Way.{Way}
use Rattle.qcow2_spec.specs.declared.Way.TheVariants.{NoTable, Slot}
use Rattle.qcow2_jobs.specs.Jobs.{release_plan}
use Rattle.qcow2_jobs.specs.declared.releasing.Freed.{Freed}
use Rattle.qcow2_jobs.specs.declared.releasing.Freed.TheVariants.{Entry, Both}
use Rattle.qcow2_added.specs.Falls.{PlanFalls, Falls}

slot_falls : (s : List ℕ) (a e : ℕ) → PlanFalls s (discard_slot s a e)
unfolding discard_slot set_count count_of
slot_falls s a e =
    if_elim (PlanFalls s) (eqb e (cleared_entry s)) _ _ (λ q. tt)
    (λ q. if_elim (PlanFalls s) (eqb (place e) 0) _ _ (λ r. tt)
    (λ r. if_elim (PlanFalls s) (eqb (count_of s (place e / cluster_size s)) 0) _ _ (λ u. tt) (λ u. (omega arith, tt))))

way_falls : (s : List ℕ) (w : Way) → PlanFalls s (discard_way s (Ok w))
unfolding discard_way
way_falls s NoTable = if_elim (PlanFalls s) (backed s) _ _ (λ q. tt) (λ q. tt)
way_falls s (Slot a e) = if_elim (PlanFalls s) (backed s && eqb (version s) 2) _ _ (λ q. tt) (λ q. slot_falls s a e)

pub freed_falls : (s : List ℕ) (w : Way) (f : Freed) → release_plan (Ok (Some f)) ≡ discard_way s (Ok w) → Falls s f
freed_falls s w f e = go f (subst (PlanFalls s) (sym e) (way_falls s w))
  where
    go : (f : Freed) → PlanFalls s (release_plan (Ok (Some f))) → Falls s f
    go (Entry a x) h = tt
    go (Both a x t k v) h = h.0
