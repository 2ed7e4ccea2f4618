-- Laws of how many entries pass at the front of a list.
-- Assumes nothing.
use Rattle.std.proofs.Common.{◌≡◌, ℕ, suc, ◌+◌, ◌-◌, ◌*◌, ◌<◌, ◌≤◌, Bool, true, false, List, [], ◌∷◌, length, drop, add-zero, arith, if◌then◌else◌}
use Rattle.endian.specs.Big.{be64, entries}
use Rattle.endian.proofs.Entries.{entries_turn, entries_none}
use Rattle.qcow2_groups.specs.Walks.{fore}

pub fore-most : (p : ℕ → Bool) (es : List ℕ) → fore p es ≤ length es
unfolding fore
fore-most p [] = omega arith
fore-most p (e ∷ es) = go (p e) (fore-most p es)
  where
    go : (t : Bool) → fore p es ≤ length es → (if t then suc (fore p es) else 0) ≤ suc (length es)
    go true h = omega arith
    go false h = omega arith

-- those of a table from index j of k on: the first passes, the first does not, there is none
module _ (p : ℕ → Bool) (k j : ℕ) (t : List ℕ) where
  pub fore_turn : j < k → p (be64 t (8 * j)) ≡ true → j + fore p (entries (k - j) (drop (8 * j) t)) ≡ j + 1 + fore p (entries (k - (j + 1)) (drop (8 * (j + 1)) t))
  unfolding fore
  fore_turn h e = rw (entries_turn k j t h, e) (omega arith)

  pub fore_stop : j < k → p (be64 t (8 * j)) ≡ false → j + fore p (entries (k - j) (drop (8 * j) t)) ≡ j
  unfolding fore
  fore_stop h e = rw (entries_turn k j t h, e) (add-zero j)

  pub fore_end : k ≤ j → j + fore p (entries (k - j) (drop (8 * j) t)) ≡ j
  unfolding fore
  fore_end h = rw (entries_none k j t h) (add-zero j)
