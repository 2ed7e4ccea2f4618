-- What a power cut leaves of a batch, whichever units of the phase at work are stored: an image that is sound or leaking, and through every table the
-- guest clusters as some image of the batch had them. Assumes nothing.
use mathlib.Core.Path.{◌≡◌}
use mathlib.Core.Bool.{Bool}
use mathlib.Core.List.{List}
use Prim.Native.Nat.{ℕ, ◌<◌}
use Rattle.cuts.proofs.Cell.{mem}
use Rattle.cuts.proofs.Meta.{Geo, GeoOk, Codec}
use Rattle.cuts.proofs.Step.{gread}
use Rattle.cuts.proofs.Run.{Store, apply_all, picked}
use Rattle.cuts.proofs.Call.{Ok}
use Rattle.batches.proofs.Mixture.{Use}
use Rattle.batches.proofs.Planned.{middle_image, late_image, cut_among, cut_after}
use Rattle.batches.proofs.Batch.{Batch}
use Rattle.batches.proofs.Shown.{reads_among}
use Rattle.batches.proofs.After.{reads-after}
use Rattle.batches.proofs.Stored.{whole-stored}

module _ (g : Geo) (K : Codec) (ok : GeoOk g K) (m0 : ℕ → ℕ → ℕ) (img : List ℕ) (k0 : Ok g K m0 img) (past : (ℕ → ℕ → ℕ) → Type 0) (role : ℕ → Use) (dead : ℕ → Type 0)
    (r l f : List Store) (s : List ℕ) (b : Batch g K ok m0 img k0 past role dead r l f s) where
  -- among them
  abbrev pub middle : List ℕ
  middle = middle_image g K ok m0 img k0 role dead r l f s b.planned b.settled

  pub held_among : (cs : List Bool) → Ok g K m0 (apply_all g.C (picked cs l) middle)
  held_among cs = (cut_among g K ok m0 img k0 role dead r l f s b.planned b.settled cs).fine

  pub shown_among : past (mem g.C img) → past (mem g.C s) → (cs : List Bool) (i j : ℕ) → (i_l : i < g.L) → (j_e : j < g.E)
      → (image : ℕ → ℕ → ℕ) × past image × ((o : ℕ) → o < g.C → gread g K (mem g.C (apply_all g.C (picked cs l) middle)) i j o ≡ gread g K image i j o)
  shown_among first last cs i j i_l j_e =
      let w = reads_among g K ok m0 img k0 role dead r l f s b.planned b.settled past first last b.begun b.written cs i j i_l j_e in
      (w.image, w.was, w.same)

  -- after them: the tables are those in memory
  abbrev pub late : List ℕ
  late = late_image g K ok m0 img k0 role dead r l f s b.planned b.settled

  pub held_after : (cs : List Bool) → Ok g K m0 (apply_all g.C (picked cs f) late)
  held_after cs = (cut_after g K ok m0 img k0 role dead r l f s b.planned b.settled cs).fine

  -- all of it stored: the image in memory
  pub held_whole : apply_all g.C f late ≡ s
  held_whole = whole-stored g K ok m0 img k0 role dead r l f s b.planned b.settled

  pub shown-after : (cs : List Bool) (i j o : ℕ) → i < g.L → j < g.E → o < g.C → gread g K (mem g.C (apply_all g.C (picked cs f) late)) i j o ≡ gread g K (mem g.C s) i j o
  shown-after = reads-after g K ok m0 img k0 role dead r l f s b.planned b.settled
