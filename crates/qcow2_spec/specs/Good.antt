-- What good entries are, said of whole numbers and not of bits: no bit of an entry is left unlooked at. Proved in proofs/Good.antt.
-- Assumes nothing.
use Rattle.std.specs.Prelude.{ℕ, ◌+◌, ◌*◌, ◌%◌, ◌^◌, ◌≤◌, ◌<◌, ◌≡◌, ◌⊎◌, ◌↔◌, true}
use Rattle.qcow2_spec.specs.Header.{most_length}
use Rattle.qcow2_spec.specs.Entries.{good_l1, good_l2}

-- e is the place of a whole cluster inside the image's n bytes, with bit 63 or without it, and nothing else
pub record Names (C n e : ℕ) : Type 0 where
  pub at : ℕ
  pub top : ℕ
  pub bit : top ≤ 1
  pub is : e ≡ top * 2 ^ 63 + at
  pub some : 0 < at
  pub whole : at % C ≡ 0
  pub inside : at + C ≤ n

-- e is 0 or names a cluster
abbrev pub Unmarked : (C n e : ℕ) → Type 0
Unmarked C n e = (e ≡ 0) ⊎ Names C n e

-- in version 3 e may have a zero mark beside that
abbrev pub MaybeMarked : (version C n e : ℕ) → Type 0
MaybeMarked version C n e = Unmarked C n e ⊎ ((version ≡ 3) × ((u : ℕ) × ((e ≡ u + 1) × Unmarked C n u)))

-- the law, for clusters of whole sectors and images that are not too long: these are the good entries, and there are no others
abbrev pub GoodEntries : Type 0
GoodEntries =
    (version C n k e : ℕ) → C ≡ 512 * k → 0 < k → n ≤ most_length → e < 2 ^ 64
    → ((good_l1 C n e ≡ true) ↔ Unmarked C n e) × ((good_l2 version C n e ≡ true) ↔ MaybeMarked version C n e)
