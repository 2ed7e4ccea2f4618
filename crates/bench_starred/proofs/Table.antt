-- The bench image's table, joined: `quick` stores a fill in one pass and leaves the same image.
-- Assumes nothing.
use Prim.Native.Nat.{ℕ, zero, suc, ◌*◌}
use native.Mathlib.Nat.{zero-lt-suc}
use mathlib.Core.Bool.{true}
use mathlib.Core.Path.{◌≡◌, refl, subst, fun_ext}
use mathlib.Core.List.{List, [], ◌∷◌}
use lib.Dec.{ltb}
use lib.ListN.{get_or}
use borrow.Author.Tests.{ltb-true}
use Rattle.choice.specs.Pick.{all}
use Rattle.choice.proofs.Tests.{and-true}
use Rattle.units.specs.Plan.{Plan, after}
use Rattle.qcow2_spec.specs.Header.{clusters}
use Rattle.qcow2_spec.specs.Guest.{guest_byte}
use Rattle.qcow2_spec.specs.Check.{check}
use Rattle.qcow2_spec.specs.Series.{Healthy, Call, AllBytes, Agrees, Holds}
use Rattle.qcow2_spec.proofs.Series.{demand3}
use Rattle.bench_table.specs.Bench.{bench}
use Rattle.bench_table.specs.Table.{Starred, Headers}
use Rattle.bench_table.proofs.Quick.{quick_ok}
use Rattle.bench_table.proofs.Table.{computing}
use Rattle.bench_stores.proofs.Write.{quick_stored, quick_cut_early, quick_cut_late}
use Rattle.bench_calls.proofs.After.{quick_repaired, quick_next, quick_discarded, quick_full, quick_edges}
use Rattle.bench_runs.proofs.Cleared.{quick_cleared}
use Rattle.bench_runs.proofs.Runs.{quick_runs}
use Rattle.bench_widths.proofs.Widths.{quick_widths}

-- the starred lines, for all data bytes
pub starred : (a b c d e x y z : ℕ) → Starred after (a ∷ b ∷ c ∷ d ∷ e ∷ []) x y z
starred a b c d e x y z =
    subst (λ (f : Plan → ℕ → List ℕ → List ℕ). Starred f (a ∷ b ∷ c ∷ d ∷ e ∷ []) x y z) (fun_ext λ p. fun_ext λ k. fun_ext λ s. quick_ok p k s)
    (record {
      stored = quick_stored a b c d e x y z;
      cut_early = quick_cut_early a b c d e x y z;
      cut_late = quick_cut_late a b c d e x y z;
      repaired = quick_repaired a b c d e x y z;
      next = quick_next a b c d e x y z;
      discarded = quick_discarded a b c d e x y z;
      full = quick_full a b c d e x y z;
      edges = quick_edges a b c d e x y z;
      cleared = quick_cleared a b c d e x y z;
      runs = quick_runs a b c d e x y z;
      widths = quick_widths a b c d e;
    })

pub headers : Headers
unfolding computing
headers = record { accepted = refl; shortest = refl; size = refl; sectors = refl; whole-sectors = refl; rows = refl; rows-past = refl; bits_8 = refl; bits_22 = refl; bits_16 = refl; bits_17 = refl; bits_21 = refl; short = refl; odd = refl }

-- ---- demand 3 speaks of the bench image
each-byte : (l : List ℕ) → all (λ b. ltb b 256) l ≡ true → (i : ℕ) → ltb (get_or l i 0) 256 ≡ true
each-byte [] e i = refl
each-byte (x ∷ l) e zero = (and-true (ltb x 256) _ e).0
each-byte (x ∷ l) e (suc i) = each-byte l (and-true (ltb x 256) _ e).1 i

bench-bytes : all (λ b. ltb b 256) bench ≡ true
unfolding computing
bench-bytes = refl

bench-healthy : Healthy (check [] bench (2 * clusters bench))
unfolding computing check Healthy
bench-healthy = tt

pub bench_series : (calls : List Call) → AllBytes calls → Agrees [] bench bench (guest_byte [] bench 0) × Holds [] bench bench (guest_byte [] bench 0) calls
bench_series calls sm = demand3 [] bench (λ i. zero-lt-suc 255) (λ i. ltb-true (get_or bench i 0) 256 (each-byte bench bench-bytes i)) bench-healthy calls sm
