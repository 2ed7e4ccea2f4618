-- What the guest and its snapshots read, from what the machinery says of the clusters: a call that leaves the reads, zeroes a guest cluster or writes bytes into it feeds the plain disk so. Assumes nothing.
use Rattle.std.specs.Prelude.{if◌then◌else◌, Err, Ok as ok, Result as Outcome}
use Prim.Native.Nat.{ℕ, ◌+◌, ◌-◌, ◌*◌, ◌/◌, ◌%◌, ◌≤◌, ◌<◌}
use native.Mathlib.Nat.{mod-lt, div-add-mod', mul-le-mul_right}
use native.Mathlib.Decide.{ℕ_discrete, dec_le, dec_lt}
use native.Mathlib.Omega.{arith}
use mathlib.Core.Path.{◌≡◌, refl, sym, ap, ap₂, ◌∙◌}
use mathlib.Core.Logic.{◌⊎◌, inl, inr, ◌≢◌}
use mathlib.Core.Bool.{Bool, true, false, ◌&&◌}
use mathlib.Core.List.{List}
use lib.Dec.{leb, ltb, eqb}
use lib.ListN.{length, get_or}
use borrow.Author.Tests.{ltb-true, leb-true, eqb-true, eqb-false, le-leb, lt-ltb}
use Rattle.cuts.proofs.Cell.{mem}
use Rattle.cuts.proofs.Meta.{cnt, refs_of}
use Rattle.cuts.proofs.Step.{gread, split_index}
use Rattle.cuts.proofs.Call.{Ok, SameGuest, Zeroed}
use Rattle.cuts.proofs.Write.{Wrote, Partly}
use Rattle.qcow2_spec.specs.Header.{most_l1, cluster_size, clusters, disk_size, per_table, roots, root_size}
use Rattle.qcow2_spec.specs.Guest.{backing_byte, reach}
use Rattle.units.specs.declared.Ended.{Ended}
use Rattle.units.specs.declared.Ended.TheVariants.{Finished, Stopped}
use Rattle.qcow2_spec.specs.Disk.{Request, write, discard, repair, finished, SameDisk, Mixed, Fed}
use Rattle.choice.proofs.Tests.{if_yes, if_no, if_elim, and-true, two_ways}
use Rattle.qcow2_spec.proofs.Facts.{Facts, c_pos, root-few, root-count}
use Rattle.qcow2_spec.proofs.Geo.{nr, geo, code, geo_ok}
use Rattle.qcow2_spec.proofs.Ways.{rd, in_root}

-- ---- the disk after a write
module _ (C x : ℕ) (d : List ℕ) (disk : ℕ → ℕ) (y : ℕ) where
  pub written_in : x ≤ y → y < x + length d → finished C (write x d) disk y ≡ get_or d (y - x) 0
  unfolding finished
  written_in h k = rw (le-leb x y h, lt-ltb y (x + length d) k) refl

  pub written_out : ¬ ((x ≤ y) × (y < x + length d)) → finished C (write x d) disk y ≡ disk y
  unfolding finished
  written_out n = go (two_ways (leb x y && ltb y (x + length d)))
    where
      go : ((leb x y && ltb y (x + length d)) ≡ true) ⊎ ((leb x y && ltb y (x + length d)) ≡ false)
          → (if leb x y && ltb y (x + length d) then get_or d (y - x) 0 else disk y) ≡ disk y
      go (inl e) = let p = and-true (leb x y) _ e in absurd (n (leb-true x y p.0, ltb-true y (x + length d) p.1))
      go (inr e) = if_no (leb x y && ltb y (x + length d)) _ _ e

pub dec_range : (x y n : ℕ) → Dec ((x ≤ y) × (y < x + n))
dec_range x y n = go (dec_le x y) (dec_lt y (x + n))
  where
    go : Dec (x ≤ y) → Dec (y < x + n) → Dec ((x ≤ y) × (y < x + n))
    go (yes a) (yes b) = yes (a, b)
    go (yes a) (no b) = no (λ p. b p.1)
    go (no a) b = no (λ p. a p.0)

-- the bytes of a request that lies in one cluster
pub within-cluster : (C x y n : ℕ) → 0 < C → x % C + n ≤ C → x ≤ y → y < x + n → (y / C ≡ x / C) × (y % C ≡ x % C + (y - x))
within-cluster C x y n cp fits a b = go (ℕ_discrete (y / C) (x / C))
  where
    d1 : y / C * C + y % C ≡ y
    d1 = div-add-mod' y C

    d2 : x / C * C + x % C ≡ x
    d2 = div-add-mod' x C

    far : y / C ≢ x / C → Dec (y / C < x / C) → ⊥
    far n (yes h) = omega (arith, d1, d2, mul-le-mul_right C h, mod-lt y cp)
    far n (no h) = let k : x / C < y / C = omega arith in omega (arith, d1, d2, mul-le-mul_right C k)

    go : Dec (y / C ≡ x / C) → (y / C ≡ x / C) × (y % C ≡ x % C + (y - x))
    go (yes e) = (e, omega (arith, d1, d2, ap (λ (z : ℕ). z * C) e))
    go (no n) = absurd (far n (dec_lt (y / C) (x / C)))

pub strong : (b : Bool) (size : ℕ) (old new now : ℕ → ℕ) → SameDisk size now old ⊎ SameDisk size now new → (u : ℕ) → Fed (ok (Stopped u)) b size old new now
unfolding Fed SameDisk Mixed
strong true size old new now h u = h
strong false size old new now (inl h) u = λ x l. inl (h x l)
strong false size old new now (inr h) u = λ x l. inr (h x l)

-- the plain disk may be read off by either side
module _ (size : ℕ) (old old' new new' now now' : ℕ → ℕ) (ho : SameDisk size old old') (hn : SameDisk size new new') (hw : SameDisk size now now') where
  pub fed-same : (o : Outcome Ended ℕ) (b : Bool) → Fed o b size old new now → Fed o b size old' new' now'
  unfolding Fed SameDisk Mixed
  fed-same (Err n) b h = λ y l. sym (hw y l) ∙ h y l ∙ ho y l
  fed-same (ok (Finished u)) b h = λ y l. sym (hw y l) ∙ h y l ∙ hn y l
  fed-same (ok (Stopped u)) true (inl h) = inl (λ y l. sym (hw y l) ∙ h y l ∙ ho y l)
  fed-same (ok (Stopped u)) true (inr h) = inr (λ y l. sym (hw y l) ∙ h y l ∙ hn y l)
  fed-same (ok (Stopped u)) false h = λ y l. go y l (h y l)
    where
      go : (y : ℕ) → y < size → (now y ≡ old y) ⊎ (now y ≡ new y) → (now' y ≡ old' y) ⊎ (now' y ≡ new' y)
      go y l (inl e) = inl (sym (hw y l) ∙ e ∙ ho y l)
      go y l (inr e) = inr (sym (hw y l) ∙ e ∙ hn y l)

module _ (backing s : List ℕ) (f : Facts s) where
  abbrev pub m : ℕ → ℕ → ℕ
  m = mem (cluster_size s) s

  abbrev pub seen : List ℕ → ℕ → ℕ
  seen t = rd (geo s) (code s) (backing_byte backing s) t 0

  abbrev pub Kept : List ℕ → Type 0
  Kept t = Ok (geo s) (code s) m t

  pub cp : 0 < cluster_size s
  cp = c_pos s f

  pub ep : 0 < per_table s
  ep = (geo_ok s f).epos

  -- the numbers of the guest's L1 entries
  pub reach-0 : reach s 0 ≡ disk_size s
  unfolding reach
  reach-0 = refl

  pub in_l1 : (y : ℕ) → y < disk_size s → y / cluster_size s / per_table s < root_size s 0
  in_l1 y l = in_root s f 0 y (rw reach-0 l)

  pub first-root : 0 < roots s
  first-root = omega (arith, root-count s f)

  pub nr_l1 : (r : ℕ) → r < root_size s 0 → nr 0 r < roots s * most_l1
  nr_l1 r l = omega (arith, root-few s f 0 first-root, root-count s f)

  pub split_nr : (a b : ℕ) → a ≢ b → (nr 0 (a / per_table s) ≢ nr 0 (b / per_table s)) ⊎ (a % per_table s ≢ b % per_table s)
  split_nr a b d = go (split_index (per_table s) a b d)
    where
      go : (a / per_table s ≢ b / per_table s) ⊎ (a % per_table s ≢ b % per_table s) → (nr 0 (a / per_table s) ≢ nr 0 (b / per_table s)) ⊎ (a % per_table s ≢ b % per_table s)
      go (inl n) = inl (λ e. n (omega arith))
      go (inr n) = inr n

  -- the byte at x of what lies under guest cluster c, zeros past the disk's size
  abbrev pub beneath : (c x : ℕ) → ℕ
  beneath c x = if ltb (c * cluster_size s + x) (disk_size s) then backing_byte backing s (c * cluster_size s + x) else 0

  pub beneath_at : (y : ℕ) → y < disk_size s → backing_byte backing s y ≡ beneath (y / cluster_size s) (y % cluster_size s)
  beneath_at y l =
      sym (ap (λ (z : ℕ). if ltb z (disk_size s) then backing_byte backing s z else 0) (div-add-mod' y (cluster_size s)) ∙ if_yes (ltb y (disk_size s)) _ _ (lt-ltb y (disk_size s) l))

  pub seen_beneath : (t : List ℕ) (y : ℕ) → y < disk_size s
      → seen t y ≡ gread (geo s) (code s) (mem (cluster_size s) t) (nr 0 (y / cluster_size s / per_table s)) (y / cluster_size s % per_table s) (y % cluster_size s) (beneath (y / cluster_size s) (y % cluster_size s))
  seen_beneath t y l = ap (λ (v : ℕ). gread (geo s) (code s) (mem (cluster_size s) t) (nr 0 (y / cluster_size s / per_table s)) (y / cluster_size s % per_table s) (y % cluster_size s) v) (beneath_at y l)

  -- ---- what the machinery says of the reads, for the snapshots
  abbrev pub Shots : List ℕ → Type 0
  Shots t = (a b x : ℕ) → a < roots s * most_l1 → most_l1 ≤ a → b < per_table s → x < cluster_size s → gread (geo s) (code s) (mem (cluster_size s) t) a b x ≡ gread (geo s) (code s) m a b x

  pub same-shots : (t : List ℕ) → SameGuest (geo s) (code s) s t → Shots t
  unfolding SameGuest
  same-shots t h a b x l n p q = h a b x l p q

  pub zeroed_shots : (t : List ℕ) (u : ℕ → ℕ) (i j : ℕ) → i < most_l1 → Zeroed (geo s) (code s) u i j s t → Shots t
  zeroed_shots t u i j l h a b x k n p q = h.other a b x k p q (inl (λ e. omega arith))

  pub wrote_shots : (t : List ℕ) (u : ℕ → ℕ) (i j o : ℕ) (d : List ℕ) → i < most_l1 → Wrote (geo s) (code s) u i j o d s t → Shots t
  wrote_shots t u i j o d l h a b x k n p q = h.other a b x k p q (inl (λ e. omega arith))

  -- ---- and for the plain disk
  pub same_rd : (r t : List ℕ) → SameGuest (geo s) (code s) r t → SameDisk (disk_size s) (seen t) (seen r)
  unfolding SameGuest SameDisk
  same_rd r t h y l =
      ap (λ (f : ℕ → ℕ). f (backing_byte backing s y))
      (h (nr 0 (y / cluster_size s / per_table s)) (y / cluster_size s % per_table s) (y % cluster_size s) (nr_l1 _ (in_l1 y l)) (mod-lt (y / cluster_size s) ep) (mod-lt y cp))

  pub zeroed_rd : (t : List ℕ) (c : ℕ) → Zeroed (geo s) (code s) (beneath c) (nr 0 (c / per_table s)) (c % per_table s) s t → SameDisk (disk_size s) (seen t) (finished (cluster_size s) (discard c) (seen s))
  unfolding SameDisk finished
  zeroed_rd t c h y l =
      if_elim (λ (v : ℕ). seen t y ≡ v) (eqb (y / cluster_size s) c) _ _
      (λ e. seen_beneath t y l ∙ ap (λ (x : ℕ). gread (geo s) (code s) (mem (cluster_size s) t) (nr 0 (x / per_table s)) (x % per_table s) (y % cluster_size s) (beneath x (y % cluster_size s))) (eqb-true _ _ e) ∙ h.here (y % cluster_size s) (mod-lt y cp))
      (λ e. ap (λ (f : ℕ → ℕ). f (backing_byte backing s y)) (h.other (nr 0 (y / cluster_size s / per_table s)) (y / cluster_size s % per_table s) (y % cluster_size s) (nr_l1 _ (in_l1 y l)) (mod-lt (y / cluster_size s) ep) (mod-lt y cp)
      (split_nr (y / cluster_size s) c (eqb-false _ _ e))))

  pub wrote_rd : (t : List ℕ) (x : ℕ) (d : List ℕ) → x % cluster_size s + length d ≤ cluster_size s
      → Wrote (geo s) (code s) (beneath (x / cluster_size s)) (nr 0 (x / cluster_size s / per_table s)) (x / cluster_size s % per_table s) (x % cluster_size s) d s t
      → SameDisk (disk_size s) (seen t) (finished (cluster_size s) (write x d) (seen s))
  unfolding SameDisk
  wrote_rd t x d fits h y l = go (ℕ_discrete (y / cluster_size s) (x / cluster_size s))
    where
      C : ℕ
      C = cluster_size s

      E : ℕ
      E = per_table s

      d1 : y / C * C + y % C ≡ y
      d1 = div-add-mod' y C

      d2 : x / C * C + x % C ≡ x
      d2 = div-add-mod' x C

      near : (x ≤ y) × (y < x + length d) → (y / C ≡ x / C) × (y % C ≡ x % C + (y - x))
      near p = within-cluster C x y (length d) cp fits p.0 p.1

      go : Dec (y / C ≡ x / C) → seen t y ≡ finished C (write x d) (seen s) y
      go (no n) =
          ap (λ (f : ℕ → ℕ). f (backing_byte backing s y)) (h.other (nr 0 (y / C / E)) (y / C % E) (y % C) (nr_l1 _ (in_l1 y l)) (mod-lt (y / C) ep) (mod-lt y cp) (split_nr (y / C) (x / C) n))
          ∙ sym (written_out C x d (seen s) y (λ p. n (near p).0))
      go (yes e) = pick (dec_range x y (length d))
        where
          e' : y / C * C ≡ x / C * C
          e' = ap (λ (z : ℕ). z * C) e

          at : (r : List ℕ) → seen r y ≡ gread (geo s) (code s) (mem C r) (nr 0 (x / C / E)) (x / C % E) (y % C) (beneath (x / C) (y % C))
          at r = seen_beneath r y l ∙ ap (λ (z : ℕ). gread (geo s) (code s) (mem C r) (nr 0 (z / E)) (z % E) (y % C) (beneath z (y % C))) e

          pick : Dec ((x ≤ y) × (y < x + length d)) → seen t y ≡ finished C (write x d) (seen s) y
          pick (yes p) =
              at t ∙ ap (λ (z : ℕ). gread (geo s) (code s) (mem C t) (nr 0 (x / C / E)) (x / C % E) z (beneath (x / C) z)) (near p).1 ∙ h.inside (y - x) (omega arith)
              ∙ sym (written_in C x d (seen s) y p.0 p.1)
          pick (no n) = at t ∙ h.outside (y % C) (mod-lt y cp) (side (dec_lt y x)) ∙ sym (at s) ∙ sym (written_out C x d (seen s) y n)
            where
              side : Dec (y < x) → (y % C < x % C) ⊎ (x % C + length d ≤ y % C)
              side (yes a) = inl (omega (arith, d1, d2, e'))
              side (no a) = inr (apart (dec_le (x + length d) y))
                where
                  apart : Dec (x + length d ≤ y) → x % C + length d ≤ y % C
                  apart (yes b) = omega (arith, d1, d2, e')
                  apart (no b) = absurd (n (omega arith, omega arith))

  pub part_rd : (t : List ℕ) (x : ℕ) (d : List ℕ) → x % cluster_size s + length d ≤ cluster_size s
      → Partly (geo s) (code s) (beneath (x / cluster_size s)) (nr 0 (x / cluster_size s / per_table s)) (x / cluster_size s % per_table s) (x % cluster_size s) d s t
      → Mixed (disk_size s) (seen t) (seen s) (finished (cluster_size s) (write x d) (seen s))
  unfolding Mixed SameDisk
  part_rd t x d fits h y l = go (dec_range x y (length d))
    where
      C : ℕ
      C = cluster_size s

      E : ℕ
      E = per_table s

      r : seen t y ≡ finished C (write x h.bytes) (seen s) y
      r = wrote_rd t x h.bytes (omega (arith, h.len)) h.wrote y l

      go : Dec ((x ≤ y) × (y < x + length d)) → (seen t y ≡ seen s y) ⊎ (seen t y ≡ finished C (write x d) (seen s) y)
      go (no q) = inl (r ∙ written_out C x h.bytes (seen s) y (λ p. q (p.0, omega (arith, p.1, h.len))))
      go (yes p) = one (h.each (y - x) (omega arith))
        where
          at : (y / C ≡ x / C) × (y % C ≡ x % C + (y - x))
          at = within-cluster C x y (length d) cp fits p.0 p.1

          old : seen s y ≡ gread (geo s) (code s) m (nr 0 (x / C / E)) (x / C % E) (x % C + (y - x)) (beneath (x / C) (x % C + (y - x)))
          old = seen_beneath s y l ∙ ap₂ (λ (a b : ℕ). gread (geo s) (code s) m (nr 0 (a / E)) (a % E) b (beneath a b)) at.0 at.1

          now : seen t y ≡ get_or h.bytes (y - x) 0
          now = r ∙ written_in C x h.bytes (seen s) y p.0 (omega (arith, p.1, h.len))

          one : (get_or h.bytes (y - x) 0 ≡ gread (geo s) (code s) m (nr 0 (x / C / E)) (x / C % E) (x % C + (y - x)) (beneath (x / C) (x % C + (y - x)))) ⊎ (get_or h.bytes (y - x) 0 ≡ get_or d (y - x) 0)
              → (seen t y ≡ seen s y) ⊎ (seen t y ≡ finished C (write x d) (seen s) y)
          one (inl e) = inl (now ∙ e ∙ sym old)
          one (inr e) = inr (now ∙ e ∙ sym (written_in C x d (seen s) y p.0 p.1))

  -- ---- and what a repair leaves: every count is that of the references
  unfoldable pub Exact : Request → List ℕ → Type 0
  Exact (write x d) t = Unit {0}
  Exact (discard c) t = Unit {0}
  Exact (repair n) t = (c : ℕ) → c < clusters s → cnt (geo s) (mem (cluster_size s) t) c ≡ refs_of (geo s) (code s) (mem (cluster_size s) t) c
