-- What the stores of extending keep: bytes of a new block whose entry is 0, the entry of a filled one, and the autoclear field. Assumes nothing.
use Rattle.std.specs.Prelude.{if◌then◌else◌}
use Prim.Native.Nat.{ℕ, ◌+◌, ◌/◌, ◌^◌, ◌≤◌, ◌<◌}
use native.Mathlib.Decide.{ℕ_discrete, dec_lt}
use native.Mathlib.Omega.{arith}
use mathlib.Core.Path.{◌≡◌, refl, ap, ◌∙◌, subst}
use mathlib.Core.Logic.{◌⊎◌, inl, inr, ◌≢◌}
use mathlib.Core.Bool.{true, false}
use mathlib.Core.List.{List, []}
use lib.Dec.{eqb}
use lib.ListN.{length, get_or, replicate, length-replicate}
use borrow.Author.Tests.{eq-eqb, eqb-true}
use Rattle.choice.proofs.Tests.{if_yes, if_elim, two_ways}
use Rattle.endian.specs.Big.{be64, bytes64}
use Rattle.endian.proofs.Laws.{sets_splice, be64-same, be64-stored, length-bytes64}
use Rattle.widths.specs.Width.{stored}
use Rattle.widths.proofs.Cells.{recell, stored_recell, small_recell, small_bytes, length-stored, get_or-sets_in}
use Rattle.widths.proofs.Whole.{bytes8}
use Rattle.cuts.proofs.Call.{small_sets}
use Rattle.cuts.proofs.Write.{small-replicate}
use Rattle.units.specs.Units.{entry, apply, apply_all, fill}
use Rattle.qcow2_spec.specs.Header.{version, autoclear_at, autoclear, cluster_size, width}
use Rattle.qcow2_spec.specs.Store.{clear_units}
use Rattle.qcow2_spec.specs.Series.{Bytes}
use Rattle.qcow2_longer.specs.Extend.{new_place, new_block}
use Rattle.qcow2_longer.proofs.Between.{slot, New, Room, Made, Between}
use Rattle.qcow2_longer.proofs.Fields.{fields, slot-past, slot-before, place-pos, places-apart}
use Rattle.qcow2_longer.proofs.Stores.{Only, only_same, only_sets, only_be64, fill_sets}

-- the autoclear field is as the clearing unit leaves it
abbrev pub Cleared : (s t : List ℕ) → Type 0
Cleared s t = (x : ℕ) → 88 ≤ x → x < 96 → get_or t x 0 ≡ get_or (apply_all (clear_units s) s) x 0

-- new block i is filled, whatever its entry says
abbrev pub Filled : (s t : List ℕ) (i : ℕ) → Type 0
Filled s t i = (x : ℕ) → x < cluster_size s → get_or t (new_place s i + x) 0 ≡ get_or (new_block s) x 0

-- ---- the bytes that are stored
pub length-new_block : (s : List ℕ) → length (new_block s) ≡ cluster_size s
unfolding new_block
length-new_block s = length-stored (width s) (replicate (cluster_size s) 0) 0 1 ∙ length-replicate {0} {A = ℕ} (cluster_size s) 0

small-stored : (w : ℕ) (l : List ℕ) (at v : ℕ) → Bytes l → Bytes (stored w l at v)
small-stored w l at v b =
    let R : List ℕ = recell w (λ y. get_or l y 0) at v in
    rw (stored_recell w l at v) (small_sets R l (at / 8) b (small_recell w (λ y. get_or l y 0) at v))

pub small-new_block : (s : List ℕ) → Bytes (new_block s)
unfolding new_block
small-new_block s = small-stored (width s) (replicate (cluster_size s) 0) 0 1 (small-replicate (cluster_size s))

small-entry : (v : ℕ) → Bytes (bytes64 v)
small-entry v = subst Bytes (bytes8 v) (small_bytes 8 v)

only_entry : (at v : ℕ) (t : List ℕ) → Bytes t → Only at 8 t (apply (entry at v) t)
unfolding apply
only_entry at v t b = only_sets at 8 t (bytes64 v) (length-bytes64 v) b (small-entry v)

be64-entry : (at v : ℕ) (t : List ℕ) → at + 8 ≤ length t → v < 2 ^ 64 → be64 (apply (entry at v) t) at ≡ v
unfolding apply
be64-entry at v t h l = ap (λ (u : List ℕ). be64 u at) (sets_splice t at (bytes64 v) (rw length-bytes64 h)) ∙ be64-stored t at v h l

only_clear : (s : List ℕ) → Bytes s → Only autoclear_at 8 s (apply_all (clear_units s) s)
unfolding clear_units apply_all
only_clear s b =
    if_elim (λ us. Only autoclear_at 8 s (apply_all us s)) (eqb (autoclear s) 0) _ _ (λ e. only_same autoclear_at 8 s b) (λ e. only_entry autoclear_at 0 s b)

module _ {s : List ℕ} {old : ℕ} (r : Room s old) where
  -- ---- a store apart from a block and its entry
  record Elsewhere (at n j : ℕ) : Type 0 where
    entry_off : (slot s j + 8 ≤ at) ⊎ (at + n ≤ slot s j)
    place_off : (new_place s j + cluster_size s ≤ at) ⊎ (at + n ≤ new_place s j)

  filled_only : {at n : ℕ} {t u : List ℕ} → Only at n t u → (j : ℕ) → (new_place s j + cluster_size s ≤ at) ⊎ (at + n ≤ new_place s j) → Filled s t j → Filled s u j
  filled_only o j (inl h) f x l = o.off (new_place s j + x) (inl (omega arith)) ∙ f x l
  filled_only o j (inr h) f x l = o.off (new_place s j + x) (inr (omega arith)) ∙ f x l

  made_only : {at n : ℕ} {t u : List ℕ} → Only at n t u → (j : ℕ) → Elsewhere at n j → Made s t j → Made s u j
  made_only o j d m = record { named = only_be64 o (slot s j) d.entry_off ∙ m.named; filled = filled_only o j d.place_off m.filled }

  either_only : {at n : ℕ} {t u : List ℕ} → Only at n t u → (j : ℕ) → Elsewhere at n j → (be64 t (slot s j) ≡ 0) ⊎ Made s t j → (be64 u (slot s j) ≡ 0) ⊎ Made s u j
  either_only o j d (inl e) = inl (only_be64 o (slot s j) d.entry_off ∙ e)
  either_only o j d (inr m) = inr (made_only o j d m)

  fill-elsewhere : (i j : ℕ) → New s old i → New s old j → j ≢ i → Elsewhere (new_place s i) (cluster_size s) j
  fill-elsewhere i j n m d = record { entry_off = inl (slot-before r j i m.1 n); place_off = go (dec_lt i j) }
    where
      go : Dec (i < j) → (new_place s j + cluster_size s ≤ new_place s i) ⊎ (new_place s i + cluster_size s ≤ new_place s j)
      go (yes l) = inr (places-apart r i j l)
      go (no l) = inl (places-apart r j i (omega arith))

  slot-elsewhere : (i j : ℕ) → New s old i → New s old j → j ≢ i → Elsewhere (slot s i) 8 j
  slot-elsewhere i j n m d = record { entry_off = go (dec_lt i j); place_off = inr (slot-before r i j n.1 m) }
    where
      go : Dec (i < j) → (slot s j + 8 ≤ slot s i) ⊎ (slot s i + 8 ≤ slot s j)
      go (yes l) = inr (omega arith)
      go (no l) = inl (omega arith)

  clear-elsewhere : (j : ℕ) → New s old j → Elsewhere autoclear_at 8 j
  clear-elsewhere j m = record { entry_off = inr (omega (arith, slot-past r j)); place_off = inr (omega (arith, place-pos r j m)) }

  -- ---- bytes of a new block
  module _ {t u : List ℕ} (i : ℕ) (n : New s old i) (o : Only (new_place s i) (cluster_size s) t u) where
    pub fill-cleared : Cleared s t → Cleared s u
    fill-cleared c x l h = o.off x (inl (omega (arith, place-pos r i n))) ∙ c x l h

    -- every entry is kept
    pub fill-entry : (j : ℕ) → New s old j → be64 u (slot s j) ≡ be64 t (slot s j)
    fill-entry j m = only_be64 o (slot s j) (inl (slot-before r j i m.1 n))

    -- and every other block
    pub fill-made : (j : ℕ) → New s old j → j ≢ i → Made s t j → Made s u j
    fill-made j m d = made_only o j (fill-elsewhere i j n m d)

    pub fill_between : Between s old t → Cleared s t → be64 t (slot s i) ≡ 0 → Between s old u
    fill_between b c e =
        record {
          len = o.len ∙ b.len;
          small = o.small;
          same = λ x a. o.off x (a.fills i n) ∙ b.same x a;
          started = inr (fill-cleared c);
          each = λ j m. go j m (ℕ_discrete j i);
        }
      where
        go : (j : ℕ) → New s old j → Dec (j ≡ i) → (be64 u (slot s j) ≡ 0) ⊎ Made s u j
        go j m (yes q) = inl (fill-entry j m ∙ rw q e)
        go j m (no q) = either_only o j (fill-elsewhere i j n m q) (b.each j m)

  -- all of them
  pub fill-filled : (t : List ℕ) (i : ℕ) → New s old i → length t ≡ length s → Filled s (apply_all (fill (new_place s i) (new_block s)) t) i
  fill-filled t i n e x l =
      rw (fill_sets (new_block s) (new_place s i) t)
      (get_or-sets_in (new_block s) t (new_place s i) 0 x (omega (arith, length-new_block s, r.place_in i n)) (omega (arith, length-new_block s)))

  -- ---- the entry of a new block
  module _ {t : List ℕ} (b : Between s old t) (i : ℕ) (n : New s old i) where
    abbrev named_now : List ℕ
    named_now = apply (entry (slot s i) (new_place s i)) t

    entry_only : Only (slot s i) 8 t named_now
    entry_only = only_entry (slot s i) (new_place s i) t b.small

    pub entry-cleared : Cleared s t → Cleared s named_now
    entry-cleared c x l h = entry_only.off x (inl (omega (arith, slot-past r i))) ∙ c x l h

    -- every other entry is kept, and every other block
    pub entry-entry : (j : ℕ) → New s old j → j ≢ i → be64 named_now (slot s j) ≡ be64 t (slot s j)
    entry-entry j m d = only_be64 entry_only (slot s j) (slot-elsewhere i j n m d).entry_off

    pub entry_kept : (j : ℕ) → New s old j → j ≢ i → Made s t j → Made s named_now j
    entry_kept j m d = made_only entry_only j (slot-elsewhere i j n m d)

    pub entry-made : Filled s t i → Made s named_now i
    entry-made f =
        record {
          named = be64-entry (slot s i) (new_place s i) t (omega (arith, r.table_in i n.1, r.long, b.len)) (omega (arith, r.place-small i n));
          filled = filled_only entry_only i (inr (slot-before r i i n.1 n)) f;
        }

    pub entry_between : Cleared s t → Filled s t i → Between s old named_now
    entry_between c f =
        record {
          len = entry_only.len ∙ b.len;
          small = entry_only.small;
          same = λ x a. entry_only.off x (a.slots i n) ∙ b.same x a;
          started = inr (entry-cleared c);
          each = λ j m. go j m (ℕ_discrete j i);
        }
      where
        go : (j : ℕ) → New s old j → Dec (j ≡ i) → (be64 named_now (slot s j) ≡ 0) ⊎ Made s named_now j
        go j m (yes q) = inr (rw q (entry-made f))
        go j m (no q) = either_only entry_only j (slot-elsewhere i j n m q) (b.each j m)

  -- ---- the autoclear field
  module _ (b : Between s old s) where
    pub clear-entry : (j : ℕ) → New s old j → be64 (apply_all (clear_units s) s) (slot s j) ≡ be64 s (slot s j)
    clear-entry j m = only_be64 (only_clear s b.small) (slot s j) (clear-elsewhere j m).entry_off

    pub clear_between : Between s old (apply_all (clear_units s) s)
    clear_between =
        let o = only_clear s b.small in
        record {
          len = o.len;
          small = o.small;
          same = λ x a. o.off x a.field;
          started = inr (λ x l h. refl);
          each = λ j m. either_only o j (clear-elsewhere j m) (b.each j m);
        }

  -- once it is cleared it is not cleared again
  pub cleared-none : {t : List ℕ} → Between s old t → Cleared s t → clear_units t ≡ []
  unfolding clear_units autoclear apply_all
  cleared-none {t} b c = if_yes (eqb (autoclear t) 0) [] _ (eq-eqb (autoclear t) 0 (go (two_ways (eqb (autoclear s) 0))))
    where
      long : 96 ≤ length s
      long = omega (arith, r.table_in 0 (omega (arith, r.some, r.fewer)), r.long, slot-past r 0)

      read : (u : List ℕ) → apply_all (clear_units s) s ≡ u → be64 t autoclear_at ≡ be64 u autoclear_at
      read u e = be64-same t autoclear_at u autoclear_at (λ k l. c (autoclear_at + k) (omega arith) (omega arith) ∙ ap (λ (v : List ℕ). get_or v (autoclear_at + k) 0) e)

      as_read : (u : List ℕ) → apply_all (clear_units s) s ≡ u → autoclear t ≡ (if eqb (version s) 3 then be64 u autoclear_at else 0)
      as_read u e = rw ((fields r b).version-is, read u e) refl

      go : (eqb (autoclear s) 0 ≡ true) ⊎ (eqb (autoclear s) 0 ≡ false) → autoclear t ≡ 0
      go (inl e) = as_read s (rw e refl) ∙ eqb-true (autoclear s) 0 e
      go (inr e) =
          as_read (apply (entry autoclear_at 0) s) (rw e refl)
          ∙ if_elim (λ (x : ℕ). x ≡ 0) (eqb (version s) 3) _ _ (λ v. be64-entry autoclear_at 0 s long (omega arith)) (λ v. refl)
