-- A sweep over the entries of an L1 table and of the tables below them: how each fares, and the first that fails.
-- Assumes nothing.
use Rattle.std.specs.Prelude.{ℕ, suc, ◌+◌, ◌*◌, ◌≤◌, ◌<◌, ◌≡◌, Bool, not, ◌&&◌, List, eqb, ltb, length, if◌then◌else◌}
use Rattle.endian.specs.Big.{be64}
use Rattle.window.specs.Window.{bit_kind}
use Rattle.qcow2_spec.specs.Header.{version, cluster_size, per_table}
use Rattle.qcow2_spec.specs.Entries.{place, common, good_l1}
use Rattle.qcow2_spec.specs.References.{l2_entries}
use Rattle.qcow2_spec.specs.Check.{Seek}
use Rattle.qcow2_spec.specs.declared.Verdict.{Verdict}
use Rattle.qcow2_spec.specs.declared.Verdict.TheVariants.{Sound, BadL1, BadL2}
use Rattle.qcow2_groups.specs.Walks.{fore}
use Rattle.qcow2_sweep.specs.Sweeps.{passes_by}

-- an L1 entry passes a sweep of some kind: it is good and, where bits are set, no place of it is common
unfoldable pub passes_l1_by : (kind C n e : ℕ) → Bool
passes_l1_by kind C n e = good_l1 C n e && not (eqb kind bit_kind && common e)

-- what such a sweep over L1 table t looks for: with kinds that set no bits, bad entries (`bad_in`)
unfoldable pub seek_by : (kind : ℕ) → List ℕ → ℕ → Seek
seek_by kind s t =
    record {
      good1 = passes_l1_by kind (cluster_size s) (length s);
      good2 = passes_by kind (version s) (cluster_size s) (length s);
      bad1 = λ i. BadL1 t i;
      bad2 = λ i j. BadL2 t i j;
    }

-- how an L1 entry fares: how many entries below it pass at the front, all where there is no table, and one more where it does not pass itself
unfoldable pub row_fore : (kind : ℕ) → List ℕ → ℕ → ℕ
row_fore kind s e =
    if not (passes_l1_by kind (cluster_size s) (length s) e) then suc (per_table s) else
    if eqb (place e) 0 then per_table s else
    fore (passes_by kind (version s) (cluster_size s) (length s)) (l2_entries s (place e))

-- the verdict by L1 entry i of L1 table t, of which so many of `per` entries below pass at the front
unfoldable pub named_by : (t i fore per : ℕ) → Verdict
named_by t i fore per =
    if eqb fore per then Sound else
    if ltb fore per then BadL2 t i fore else
    BadL1 t i

-- the entries from i up to r of the table at a place are 0
pub record Blank (s : List ℕ) (at i r : ℕ) : Type 0 where
  pub on : i ≤ r
  pub zero : (k : ℕ) → i ≤ k → k < r → be64 s (at + 8 * k) ≡ 0
