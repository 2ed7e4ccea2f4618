-- An output that is filled piece by piece.
-- Assumes nothing.
use Prim.Native.Nat.{ℕ, ◌+◌, ◌-◌, ◌≤◌}
use native.Mathlib.Omega.{arith}
use mathlib.Core.Path.{◌≡◌, refl, sym, ap, ◌∙◌}
use mathlib.Core.List.{List, ◌++◌, append_assoc, append-nil}
use lib.ListN.{length, take, drop, length-append, length-drop}
use lib.Seq.{take_at, drop-append-add, drop-drop, drop-length}
use Rattle.choice.specs.Pick.{each}
use Rattle.choice.proofs.Each.{length-each, each_append}
use Rattle.qcow2_spec.specs.Guest.{guest_byte, guest_bytes}

-- filled as far as a, and then as far as r
next_piece : (f : ℕ → ℕ) (x a r : ℕ) (o out : List ℕ) → out ≡ each f x a ++ drop a o → a ≤ r
    → take a out ++ (each f (x + a) (r - a) ++ drop r out) ≡ each f x r ++ drop r o
next_piece f x a r o out e h = go (r - a) (omega arith) refl
  where
    past : (p : List ℕ) → length p ≡ a → (k : ℕ) → drop (a + k) (p ++ drop a o) ≡ drop (a + k) o
    past p n k = rw (← n) (drop-append-add p (drop (length p) o) k ∙ drop-drop k (length p) o)

    go : (k : ℕ) → a + k ≡ r → r - a ≡ k → take a out ++ (each f (x + a) (r - a) ++ drop r out) ≡ each f x r ++ drop r o
    go k q z =
        let d : drop (a + k) (each f x a ++ drop a o) ≡ drop (a + k) o = past (each f x a) (length-each f x a) k in
        rw (z, e, take_at (each f x a) (drop a o) a (length-each f x a), ← q, d)
        (sym (ap (λ (l : List ℕ). l ++ drop (a + k) o) (each_append f x a k) ∙ append_assoc (each f x a) (each f (x + a) k) (drop (a + k) o)))

module _ (backing s : List ℕ) (r x : ℕ) (o : List ℕ) where
  pub no_bytes : o ≡ guest_bytes backing s r x 0 ++ drop 0 o
  unfolding guest_bytes
  no_bytes = refl

  pub next-bytes : (a m : ℕ) (out : List ℕ) → out ≡ guest_bytes backing s r x a ++ drop a o → a ≤ m
      → take a out ++ (guest_bytes backing s r (x + a) (m - a) ++ drop m out) ≡ guest_bytes backing s r x m ++ drop m o
  unfolding guest_bytes
  next-bytes a m out e h = next_piece (guest_byte backing s r) x a m o out e h

  pub length-filled : (m : ℕ) → m ≤ length o → length (guest_bytes backing s r x m ++ drop m o) ≡ length o
  unfolding guest_bytes
  length-filled m h = simp (length-append, length-each, length-drop) (omega arith)

  pub all-bytes : (m : ℕ) → m ≡ length o → guest_bytes backing s r x m ++ drop m o ≡ guest_bytes backing s r x (length o)
  all-bytes m e = rw (e, drop-length) (append-nil _)
