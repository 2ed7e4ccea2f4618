-- What the last portion names as a wrong mark: that of a good entry of the active tables, below a good one, which is wrong by the figures. Paper 02,
-- T-12. It is proved in proofs/Named.antt.
-- Assumes nothing.
use Rattle.std.specs.Prelude.{ℕ, ◌≡◌, true, false, List, length, get_or}
use Rattle.qcow2_spec.specs.Header.{version, cluster_size}
use Rattle.qcow2_spec.specs.Entries.{place, good_l1, good_l2}
use Rattle.qcow2_spec.specs.References.{l1_entries, l2_entries}
use Rattle.qcow2_spec.specs.Check.{right_mark}
use Rattle.qcow2_spec.specs.declared.Verdict.{Verdict}
use Rattle.qcow2_spec.specs.declared.Verdict.TheVariants.{Sound, Leaks, BadL1, BadL2, Shared, Short, MarkL1, MarkL2, Refused}
use Rattle.qcow2_portions.specs.Last.{last_verdict}

-- entry i of the active L1 table, and entry j of the L2 table that it names
abbrev pub upper : List ℕ → ℕ → ℕ
upper s i = get_or (l1_entries s 0) i 0

abbrev pub lower : List ℕ → (i j : ℕ) → ℕ
lower s i j = get_or (l2_entries s (place (upper s i))) j 0

unfoldable pub MarkNamed : List ℕ → List ℕ → Verdict → Type 0
MarkNamed s fs (MarkL1 i) = (good_l1 (cluster_size s) (length s) (upper s i) ≡ true) × (right_mark s fs (upper s i) ≡ false)
MarkNamed s fs (MarkL2 i j) =
    (good_l1 (cluster_size s) (length s) (upper s i) ≡ true)
    × (good_l2 (version s) (cluster_size s) (length s) (lower s i j) ≡ true)
    × (right_mark s fs (lower s i j) ≡ false)
MarkNamed s fs Sound = Unit
MarkNamed s fs (Leaks m) = Unit
MarkNamed s fs (BadL1 t i) = Unit
MarkNamed s fs (BadL2 t i j) = Unit
MarkNamed s fs (Shared k) = Unit
MarkNamed s fs (Short k) = Unit
MarkNamed s fs (Refused k) = Unit

-- for any image and any figures
abbrev pub Named : Type 0
Named = (s fs : List ℕ) → MarkNamed s fs (last_verdict s fs)
