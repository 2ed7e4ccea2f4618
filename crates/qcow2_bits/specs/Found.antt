-- What a sweep that sets bits knows of an image without snapshots.
-- Assumes nothing.
use Rattle.std.specs.Prelude.{ℕ, ◌*◌, ◌≤◌, ◌<◌, min, ◌≡◌, List}
use Rattle.endian.specs.Big.{be16}
use Rattle.tally.specs.Tally.{occurrences}
use Rattle.qcow2_spec.specs.References.{l1_entries, references}
use Rattle.qcow2_spec.specs.Check.{l1_verdict}
use Rattle.qcow2_spec.specs.declared.Verdict.TheVariants.{Sound}
use Rattle.window.specs.Window.{bit_kind}
use Rattle.qcow2_swept.specs.Rows.{seek_by}

-- every active entry is good and has bit 63 beside its place, with all below it
abbrev pub AllOwn : List ℕ → Type 0
AllOwn s = l1_verdict s (seek_by bit_kind s 0) 0 (l1_entries s 0) Sound ≡ Sound

-- the figures of the clusters from b up to e are 1 where a cluster is referred to, else 0
abbrev pub SameFrom : (s scratch : List ℕ) → (b e : ℕ) → Type 0
SameFrom s scratch b e = (k : ℕ) → b ≤ k → k < e → be16 scratch (2 * k) ≡ min 1 (occurrences k (references s))
