-- References of a cluster, counted over what names it, and what each store does to them. No bytes here: `tab i` is the cluster of the L2 table of
-- L1 entry i, `dat i j` the cluster that entry j of that table names, 0 for none. Assumes nothing.
use mathlib.Core.Path.{◌≡◌, refl, sym, ap, ◌∙◌}
use mathlib.Core.Logic.{◌⊎◌, inl, inr, ◌≢◌}
use Prim.Native.Nat.{ℕ, zero, suc, ◌+◌, ◌-◌, ◌≤◌, ◌<◌, zero-le}
use native.Mathlib.Nat.{le_refl}
use native.Mathlib.Decide.{ℕ_discrete}
use native.Mathlib.Omega.{arith}
use Rattle.cuts.proofs.Sum.{sum_to, sum_cong, sum_change, sum-le, sum-two, sum_mem, sum_mem₂, sum_change₂, sum_two₂}

unfoldable pub when_yes : {A : Type 0} → Dec A → ℕ → ℕ
when_yes (yes a) n = n
when_yes (no b) n = 0

-- does the place p name the cluster c? The place 0 names none
unfoldable pub hit : ℕ → ℕ → ℕ
hit c zero = 0
hit c (suc p) = when_yes (ℕ_discrete c (suc p)) 1

pub hit_zero : (c : ℕ) → hit c 0 ≡ 0
unfolding hit
hit_zero c = refl

pub hit_self : (c : ℕ) → c ≢ 0 → hit c c ≡ 1
unfolding hit when_yes
hit_self zero d = absurd (d refl)
hit_self (suc c) d = go (ℕ_discrete (suc c) (suc c))
  where
    go : (x : Dec (suc c ≡ suc c)) → when_yes x 1 ≡ 1
    go (yes e) = refl
    go (no n) = absurd (n refl)

pub hit_other : (c p : ℕ) → c ≢ p → hit c p ≡ 0
unfolding hit when_yes
hit_other c zero d = refl
hit_other c (suc p) d = go (ℕ_discrete c (suc p))
  where
    go : (x : Dec (c ≡ suc p)) → when_yes x 1 ≡ 0
    go (yes e) = absurd (d e)
    go (no n) = refl

pub not_hit : (c p : ℕ) → (p ≢ 0 → p ≢ c) → hit c p ≡ 0
not_hit c p h = go (ℕ_discrete p 0)
  where
    go : Dec (p ≡ 0) → hit c p ≡ 0
    go (yes z) = ap (hit c) z ∙ hit_zero c
    go (no d) = hit_other c p (λ e. h d (sym e))

pub hit_le : (c p : ℕ) → hit c p ≤ 1
unfolding hit when_yes
hit_le c zero = zero-le
hit_le c (suc p) = go (ℕ_discrete c (suc p))
  where
    go : (x : Dec (c ≡ suc p)) → when_yes x 1 ≤ 1
    go (yes e) = le_refl 1
    go (no n) = zero-le

unfoldable pub tabs : ℕ → (ℕ → ℕ) → ℕ → ℕ
tabs L tab c = sum_to L (λ i. hit c (tab i))

unfoldable pub dats : ℕ → ℕ → (ℕ → ℕ → ℕ) → ℕ → ℕ
dats L E dat c = sum_to L (λ i. sum_to E (λ j. hit c (dat i j)))

unfoldable pub refs : ℕ → ℕ → (ℕ → ℕ) → (ℕ → ℕ) → (ℕ → ℕ → ℕ) → ℕ → ℕ
unfolding tabs dats
refs L E fix tab dat c = fix c + tabs L tab c + dats L E dat c

-- ---- what names a cluster is counted
module _ (L E : ℕ) (fix tab : ℕ → ℕ) (dat : ℕ → ℕ → ℕ) where
  pub refs_is : (c : ℕ) → refs L E fix tab dat c ≡ fix c + tabs L tab c + dats L E dat c
  unfolding refs
  refs_is c = refl

  pub refs_fix : (c : ℕ) → fix c ≤ refs L E fix tab dat c
  unfolding refs
  refs_fix c = omega arith

  -- everything that names c, at once: the fixed places, one L1 entry and one L2 entry
  pub refs_all : (c i a b : ℕ) → i < L → a < L → b < E → fix c + hit c (tab i) + hit c (dat a b) ≤ refs L E fix tab dat c
  unfolding refs tabs dats
  refs_all c i a b l k m = omega (arith, sum_mem L (λ x. hit c (tab x)) i l, sum_mem₂ L E (λ x y. hit c (dat x y)) a b k m)

  pub refs_tabs : (c i k : ℕ) → i < L → k < L → i ≢ k → fix c + (hit c (tab i) + hit c (tab k)) ≤ refs L E fix tab dat c
  unfolding refs tabs dats
  refs_tabs c i k l m d = omega (arith, sum-two L (λ x. hit c (tab x)) i k l m d)

  pub refs_tab : (c i : ℕ) → i < L → fix c + hit c (tab i) ≤ refs L E fix tab dat c
  unfolding refs tabs dats
  refs_tab c i l = omega (arith, sum_mem L (λ x. hit c (tab x)) i l)

  pub refs_dat : (c a b : ℕ) → a < L → b < E → fix c + hit c (dat a b) ≤ refs L E fix tab dat c
  unfolding refs tabs dats
  refs_dat c a b k m = omega (arith, sum_mem₂ L E (λ x y. hit c (dat x y)) a b k m)

  pub refs_dats : (c i j a b : ℕ) → i < L → j < E → a < L → b < E → (a ≢ i) ⊎ (b ≢ j) → hit c (dat i j) + hit c (dat a b) ≤ refs L E fix tab dat c
  unfolding refs tabs dats
  refs_dats c i j a b l k m n d = omega (arith, sum_two₂ L E (λ x y. hit c (dat x y)) i j a b l k m n d)

-- ---- what a store does to the references
module _ (L : ℕ) where
  pub tabs_same : (tab tab' : ℕ → ℕ) → ((i : ℕ) → i < L → tab i ≡ tab' i) → (c : ℕ) → tabs L tab c ≡ tabs L tab' c
  unfolding tabs
  tabs_same tab tab' t c = sum_cong L (λ x. hit c (tab x)) (λ x. hit c (tab' x)) (λ i l. ap (hit c) (t i l))

  -- one L1 entry changes its table
  pub tabs_link : (tab tab' : ℕ → ℕ) (i : ℕ) → i < L → ((a : ℕ) → a < L → a ≢ i → tab a ≡ tab' a)
      → (c : ℕ) → tabs L tab' c + hit c (tab i) ≡ tabs L tab c + hit c (tab' i)
  unfolding tabs
  tabs_link tab tab' i l t c = sum_change L (λ x. hit c (tab x)) (λ x. hit c (tab' x)) i l (λ a p n. ap (hit c) (t a p n))

  module _ (E : ℕ) where
    pub dats_same : (dat dat' : ℕ → ℕ → ℕ) → ((i j : ℕ) → i < L → j < E → dat i j ≡ dat' i j) → (c : ℕ) → dats L E dat c ≡ dats L E dat' c
    unfolding dats
    dats_same dat dat' d c =
        sum_cong L (λ x. sum_to E (λ y. hit c (dat x y))) (λ x. sum_to E (λ y. hit c (dat' x y)))
        (λ i l. sum_cong E (λ y. hit c (dat i y)) (λ y. hit c (dat' i y)) (λ j k. ap (hit c) (d i j l k)))

    -- one L2 entry changes its place
    pub dats_entry : (dat dat' : ℕ → ℕ → ℕ) (i j : ℕ) → i < L → j < E → ((a b : ℕ) → a < L → b < E → (a ≢ i) ⊎ (b ≢ j) → dat a b ≡ dat' a b)
        → (c : ℕ) → dats L E dat' c + hit c (dat i j) ≡ dats L E dat c + hit c (dat' i j)
    unfolding dats
    dats_entry dat dat' i j l k h c =
        sum_change₂ L E (λ x y. hit c (dat x y)) (λ x y. hit c (dat' x y)) i j l k (λ a b p q d. ap (hit c) (h a b p q d))

    module _ (fix : ℕ → ℕ) where
      pub refs_same : (tab tab' : ℕ → ℕ) (dat dat' : ℕ → ℕ → ℕ) → ((i : ℕ) → i < L → tab i ≡ tab' i)
          → ((i j : ℕ) → i < L → j < E → dat i j ≡ dat' i j) → (c : ℕ) → refs L E fix tab dat c ≡ refs L E fix tab' dat' c
      unfolding refs
      refs_same tab tab' dat dat' t d c = omega (arith, tabs_same tab tab' t c, dats_same dat dat' d c)

      pub refs_entry : (tab : ℕ → ℕ) (dat dat' : ℕ → ℕ → ℕ) (i j : ℕ) → i < L → j < E
          → ((a b : ℕ) → a < L → b < E → (a ≢ i) ⊎ (b ≢ j) → dat a b ≡ dat' a b)
          → (c : ℕ) → refs L E fix tab dat' c + hit c (dat i j) ≡ refs L E fix tab dat c + hit c (dat' i j)
      unfolding refs
      refs_entry tab dat dat' i j l k h c = omega (arith, dats_entry dat dat' i j l k h c)

-- an empty L1 entry gets a table, in which one entry at most has a place
module _ (L E : ℕ) (tab tab' : ℕ → ℕ) (dat dat' : ℕ → ℕ → ℕ) (i j : ℕ) (l : i < L) (k : j < E) (z : tab i ≡ 0)
    (t : (a : ℕ) → a < L → a ≢ i → tab a ≡ tab' a) (d : (a b : ℕ) → a < L → b < E → a ≢ i → dat a b ≡ dat' a b)
    (z' : (b : ℕ) → b < E → dat i b ≡ 0) (o : (b : ℕ) → b < E → b ≢ j → dat' i b ≡ 0) where
  link_tabs : (c : ℕ) → tabs L tab' c ≡ tabs L tab c + hit c (tab' i)
  link_tabs c = omega (arith, tabs_link L tab tab' i l t c, ap (hit c) z, hit_zero c)

  link_dats : (c : ℕ) → dats L E dat' c ≡ dats L E dat c + hit c (dat' i j)
  link_dats c = omega (arith, dats_entry L E dat dat' i j l k same c, ap (hit c) (z' j k), hit_zero c)
    where
      same : (a b : ℕ) → a < L → b < E → (a ≢ i) ⊎ (b ≢ j) → dat a b ≡ dat' a b
      same a b p q (inl n) = d a b p q n
      same a b p q (inr n) = go (ℕ_discrete a i)
        where
          go : Dec (a ≡ i) → dat a b ≡ dat' a b
          go (yes e) = rw e (z' b q ∙ sym (o b q n))
          go (no m) = d a b p q m

  pub refs_link : (fix : ℕ → ℕ) (c : ℕ) → refs L E fix tab' dat' c ≡ refs L E fix tab dat c + hit c (tab' i) + hit c (dat' i j)
  unfolding refs
  refs_link fix c = omega (arith, link_tabs c, link_dats c)

-- ---- one tree of several: of what the numbers i name, that of tree τ alone
unfoldable pub within : (tree : ℕ → ℕ) (τ i x : ℕ) → ℕ
within tree τ i x = when_yes (ℕ_discrete (tree i) τ) x

module _ (tree : ℕ → ℕ) (τ i x : ℕ) where
  pub within-is : tree i ≡ τ → within tree τ i x ≡ x
  unfolding within when_yes
  within-is e = go (ℕ_discrete (tree i) τ)
    where
      go : (d : Dec (tree i ≡ τ)) → when_yes d x ≡ x
      go (yes f) = refl
      go (no n) = absurd (n e)

  pub within-not : tree i ≢ τ → within tree τ i x ≡ 0
  unfolding within when_yes
  within-not n = go (ℕ_discrete (tree i) τ)
    where
      go : (d : Dec (tree i ≡ τ)) → when_yes d x ≡ 0
      go (yes e) = absurd (n e)
      go (no f) = refl

  within_or : (within tree τ i x ≡ x) ⊎ (within tree τ i x ≡ 0)
  unfolding within when_yes
  within_or = go (ℕ_discrete (tree i) τ)
    where
      go : (d : Dec (tree i ≡ τ)) → (when_yes d x ≡ x) ⊎ (when_yes d x ≡ 0)
      go (yes e) = inl refl
      go (no n) = inr refl

  within_none : x ≡ 0 → within tree τ i x ≡ 0
  within_none e = go within_or
    where
      go : (within tree τ i x ≡ x) ⊎ (within tree τ i x ≡ 0) → within tree τ i x ≡ 0
      go (inl h) = h ∙ e
      go (inr h) = h

  within_hit : (c : ℕ) → hit c (within tree τ i x) ≤ hit c x
  within_hit c = go within_or
    where
      go : (within tree τ i x ≡ x) ⊎ (within tree τ i x ≡ 0) → hit c (within tree τ i x) ≤ hit c x
      go (inl h) = omega (arith, ap (hit c) h)
      go (inr h) = omega (arith, ap (hit c) h, hit_zero c)

abbrev pub tree_refs : ℕ → ℕ → (tree : ℕ → ℕ) → (ℕ → ℕ) → (ℕ → ℕ → ℕ) → (τ c : ℕ) → ℕ
tree_refs L E tree tab dat τ c = refs L E (λ x. 0) (λ i. within tree τ i (tab i)) (λ i j. within tree τ i (dat i j)) c

pub tree_refs_lem : (L E : ℕ) (tree fix tab : ℕ → ℕ) (dat : ℕ → ℕ → ℕ) (τ c : ℕ) → tree_refs L E tree tab dat τ c ≤ refs L E fix tab dat c
unfolding refs tabs dats
tree_refs_lem L E tree fix tab dat τ c =
    omega (
      arith,
      sum-le L (λ i. hit c (within tree τ i (tab i))) (λ i. hit c (tab i)) (λ i l. within_hit tree τ i (tab i) c),
      sum-le L (λ i. sum_to E (λ j. hit c (within tree τ i (dat i j)))) (λ i. sum_to E (λ j. hit c (dat i j)))
          (λ i l. sum-le E (λ j. hit c (within tree τ i (dat i j))) (λ j. hit c (dat i j)) (λ j k. within_hit tree τ i (dat i j) c)),
    )

-- ---- the invariant: a fixed cluster is nothing else, an L2 table is no data cluster, one tree refers to a cluster at most once,
-- and no count is below the references
pub record Inv (N L E : ℕ) (tree fix tab : ℕ → ℕ) (dat : ℕ → ℕ → ℕ) (cnt : ℕ → ℕ) : Type 0 where
  pub fixed : (c : ℕ) → c < N → 1 ≤ fix c → refs L E fix tab dat c ≤ 1
  pub roles : (c : ℕ) → c < N → (tabs L tab c ≡ 0) ⊎ (dats L E dat c ≡ 0)
  pub once : (τ c : ℕ) → c < N → tree_refs L E tree tab dat τ c ≤ 1
  pub covered : (c : ℕ) → c < N → refs L E fix tab dat c ≤ cnt c

-- what the invariant says of one cluster
record At (L E : ℕ) (tree fix tab : ℕ → ℕ) (dat : ℕ → ℕ → ℕ) (cnt : ℕ → ℕ) (c : ℕ) : Type 0 where
  fixed : 1 ≤ fix c → refs L E fix tab dat c ≤ 1
  roles : (tabs L tab c ≡ 0) ⊎ (dats L E dat c ≡ 0)
  once : (τ : ℕ) → tree_refs L E tree tab dat τ c ≤ 1
  covered : refs L E fix tab dat c ≤ cnt c

module _ (N L E : ℕ) (tree fix : ℕ → ℕ) where
  at_each : (tab : ℕ → ℕ) (dat : ℕ → ℕ → ℕ) (cnt : ℕ → ℕ) → ((c : ℕ) → c < N → At L E tree fix tab dat cnt c) → Inv N L E tree fix tab dat cnt
  at_each tab dat cnt h = record { fixed = λ c m. (h c m).fixed; roles = λ c m. (h c m).roles; once = λ τ c m. (h c m).once τ; covered = λ c m. (h c m).covered }

  -- every table and every place is the same
  pub inv_same : (tab tab' : ℕ → ℕ) (dat dat' : ℕ → ℕ → ℕ) (cnt cnt' : ℕ → ℕ) → Inv N L E tree fix tab dat cnt
      → ((i : ℕ) → i < L → tab i ≡ tab' i) → ((i j : ℕ) → i < L → j < E → dat i j ≡ dat' i j) → ((c : ℕ) → c < N → cnt c ≡ cnt' c)
      → Inv N L E tree fix tab' dat' cnt'
  inv_same tab tab' dat dat' cnt cnt' v t d n =
      record {
        fixed = λ c l h. omega (arith, v.fixed c l h, refs_same L E fix tab tab' dat dat' t d c);
        roles = λ c l. role c (v.roles c l);
        once = λ τ c l. omega (arith, v.once τ c l, refs_same L E (λ x. 0) (λ i. within tree τ i (tab i)) (λ i. within tree τ i (tab' i)) (λ i j. within tree τ i (dat i j)) (λ i j. within tree τ i (dat' i j)) (λ i m. ap (within tree τ i) (t i m)) (λ i j m k. ap (within tree τ i) (d i j m k)) c);
        covered = λ c l. omega (arith, v.covered c l, refs_same L E fix tab tab' dat dat' t d c, n c l);
      }
    where
      role : (c : ℕ) → (tabs L tab c ≡ 0) ⊎ (dats L E dat c ≡ 0) → (tabs L tab' c ≡ 0) ⊎ (dats L E dat' c ≡ 0)
      role c (inl h) = inl (sym (tabs_same L tab tab' t c) ∙ h)
      role c (inr h) = inr (sym (dats_same L E dat dat' d c) ∙ h)

  -- one L2 entry changes its place to 0, or to a cluster that nothing refers to and whose count is set
  pub inv_entry : (tab : ℕ → ℕ) (dat dat' : ℕ → ℕ → ℕ) (cnt : ℕ → ℕ) (i j : ℕ) → Inv N L E tree fix tab dat cnt → i < L → j < E
      → ((a b : ℕ) → a < L → b < E → (a ≢ i) ⊎ (b ≢ j) → dat a b ≡ dat' a b)
      → (dat' i j ≢ 0 → (refs L E fix tab dat (dat' i j) ≡ 0) × (1 ≤ cnt (dat' i j)))
      → Inv N L E tree fix tab dat' cnt
  inv_entry tab dat dat' cnt i j v l k h new = at_each tab dat' cnt both
    where
      own : (τ c : ℕ) → tree_refs L E tree tab dat' τ c + hit c (within tree τ i (dat i j)) ≡ tree_refs L E tree tab dat τ c + hit c (within tree τ i (dat' i j))
      own τ c = refs_entry L E (λ x. 0) (λ a. within tree τ a (tab a)) (λ a b. within tree τ a (dat a b)) (λ a b. within tree τ a (dat' a b)) i j l k (λ a b p q d. ap (within tree τ a) (h a b p q d)) c

      -- the new place is not c
      less : (c : ℕ) → c < N → hit c (dat' i j) ≡ 0 → At L E tree fix tab dat' cnt c
      less c m z = record {
        fixed = λ f. omega (arith, refs_entry L E fix tab dat dat' i j l k h c, v.fixed c m f);
        roles = role (v.roles c m);
        once = λ τ. omega (arith, own τ c, within_hit tree τ i (dat' i j) c, v.once τ c m);
        covered = omega (arith, refs_entry L E fix tab dat dat' i j l k h c, v.covered c m);
      }
        where
          role : (tabs L tab c ≡ 0) ⊎ (dats L E dat c ≡ 0) → (tabs L tab c ≡ 0) ⊎ (dats L E dat' c ≡ 0)
          role (inl e) = inl e
          role (inr e) = inr (omega (arith, dats_entry L E dat dat' i j l k h c))

      -- it is c, and nothing referred to c
      fresh : (c : ℕ) → c < N → refs L E fix tab dat c ≡ 0 → 1 ≤ cnt c → At L E tree fix tab dat' cnt c
      fresh c m z n = record {
        fixed = λ f. omega (arith, refs_entry L E fix tab dat dat' i j l k h c, hit_le c (dat' i j));
        roles = inl (omega (arith, refs_is L E fix tab dat c));
        once = λ τ. omega (arith, own τ c, within_hit tree τ i (dat' i j) c, hit_le c (dat' i j), tree_refs_lem L E tree fix tab dat τ c);
        covered = omega (arith, refs_entry L E fix tab dat dat' i j l k h c, hit_le c (dat' i j));
      }

      both : (c : ℕ) → c < N → At L E tree fix tab dat' cnt c
      both c m = go (ℕ_discrete c (dat' i j)) (ℕ_discrete (dat' i j) 0)
        where
          go : Dec (c ≡ dat' i j) → Dec (dat' i j ≡ 0) → At L E tree fix tab dat' cnt c
          go (no d) z = less c m (hit_other c (dat' i j) d)
          go (yes e) (yes z) = less c m (ap (hit c) z ∙ hit_zero c)
          go (yes e) (no z) = fresh c m (ap (refs L E fix tab dat) e ∙ (new z).0) (rw e (new z).1)

  -- an empty L1 entry gets the table t, in which one entry alone names the cluster d; nothing referred to t or d, and both counts are set
  pub inv_link : (tab tab' : ℕ → ℕ) (dat dat' : ℕ → ℕ → ℕ) (cnt : ℕ → ℕ) (i j : ℕ) → Inv N L E tree fix tab dat cnt → i < L → j < E → tab i ≡ 0
      → ((a : ℕ) → a < L → a ≢ i → tab a ≡ tab' a) → ((a b : ℕ) → a < L → b < E → a ≢ i → dat a b ≡ dat' a b)
      → ((b : ℕ) → b < E → dat i b ≡ 0) → ((b : ℕ) → b < E → b ≢ j → dat' i b ≡ 0)
      → tab' i ≢ dat' i j
      → (refs L E fix tab dat (tab' i) ≡ 0) × (1 ≤ cnt (tab' i)) → (refs L E fix tab dat (dat' i j) ≡ 0) × (1 ≤ cnt (dat' i j))
      → Inv N L E tree fix tab' dat' cnt
  inv_link tab tab' dat dat' cnt i j v l k z t d z' o ne a b = at_each tab' dat' cnt both
    where
      all : (c : ℕ) → refs L E fix tab' dat' c ≡ refs L E fix tab dat c + hit c (tab' i) + hit c (dat' i j)
      all c = refs_link L E tab tab' dat dat' i j l k z t d z' o fix c

      own : (τ c : ℕ) → tree_refs L E tree tab' dat' τ c ≡ tree_refs L E tree tab dat τ c + hit c (within tree τ i (tab' i)) + hit c (within tree τ i (dat' i j))
      own τ c =
          refs_link L E (λ x. within tree τ x (tab x)) (λ x. within tree τ x (tab' x)) (λ x y. within tree τ x (dat x y)) (λ x y. within tree τ x (dat' x y)) i j l k
          (within_none tree τ i (tab i) z) (λ x p n. ap (within tree τ x) (t x p n)) (λ x y p q n. ap (within tree τ x) (d x y p q n))
          (λ y q. within_none tree τ i (dat i y) (z' y q)) (λ y q n. within_none tree τ i (dat' i y) (o y q n)) (λ x. 0) c

      ts : (c : ℕ) → tabs L tab' c ≡ tabs L tab c + hit c (tab' i)
      ts = link_tabs L E tab tab' dat dat' i j l k z t d z' o

      ds : (c : ℕ) → dats L E dat' c ≡ dats L E dat c + hit c (dat' i j)
      ds = link_dats L E tab tab' dat dat' i j l k z t d z' o

      -- one new reference at most, to a cluster that had none
      fresh : (c : ℕ) → c < N → refs L E fix tab dat c ≡ 0 → 1 ≤ cnt c → hit c (tab' i) + hit c (dat' i j) ≤ 1
          → (hit c (tab' i) ≡ 0) ⊎ (hit c (dat' i j) ≡ 0) → At L E tree fix tab' dat' cnt c
      fresh c m e n one w = record {
        fixed = λ f. omega (arith, all c);
        roles = role w;
        once = λ τ. omega (arith, own τ c, within_hit tree τ i (tab' i) c, within_hit tree τ i (dat' i j) c, tree_refs_lem L E tree fix tab dat τ c);
        covered = omega (arith, all c);
      }
        where
          role : (hit c (tab' i) ≡ 0) ⊎ (hit c (dat' i j) ≡ 0) → (tabs L tab' c ≡ 0) ⊎ (dats L E dat' c ≡ 0)
          role (inl y) = inl (omega (arith, ts c, refs_is L E fix tab dat c))
          role (inr y) = inr (omega (arith, ds c, refs_is L E fix tab dat c))

      old : (c : ℕ) → c < N → hit c (tab' i) ≡ 0 → hit c (dat' i j) ≡ 0 → At L E tree fix tab' dat' cnt c
      old c m e f = record {
        fixed = λ x. omega (arith, all c, v.fixed c m x);
        roles = role (v.roles c m);
        once = λ τ. omega (arith, own τ c, within_hit tree τ i (tab' i) c, within_hit tree τ i (dat' i j) c, v.once τ c m);
        covered = omega (arith, all c, v.covered c m);
      }
        where
          role : (tabs L tab c ≡ 0) ⊎ (dats L E dat c ≡ 0) → (tabs L tab' c ≡ 0) ⊎ (dats L E dat' c ≡ 0)
          role (inl y) = inl (omega (arith, ts c))
          role (inr y) = inr (omega (arith, ds c))

      both : (c : ℕ) → c < N → At L E tree fix tab' dat' cnt c
      both c m = go (ℕ_discrete c (tab' i)) (ℕ_discrete c (dat' i j))
        where
          go : Dec (c ≡ tab' i) → Dec (c ≡ dat' i j) → At L E tree fix tab' dat' cnt c
          go (yes e) (yes f) = absurd (ne (sym e ∙ f))
          go (yes e) (no f) = let y : hit c (dat' i j) ≡ 0 = hit_other c (dat' i j) f in fresh c m (ap (refs L E fix tab dat) e ∙ a.0) (rw e a.1) (omega (arith, y, hit_le c (tab' i))) (inr y)
          go (no f) (yes e) = let y : hit c (tab' i) ≡ 0 = hit_other c (tab' i) f in fresh c m (ap (refs L E fix tab dat) e ∙ b.0) (rw e b.1) (omega (arith, y, hit_le c (dat' i j))) (inl y)
          go (no f) (no e) = old c m (hit_other c (tab' i) f) (hit_other c (dat' i j) e)

-- ---- what alone refers to a cluster
module _ (L E : ℕ) (fix tab : ℕ → ℕ) (dat : ℕ → ℕ → ℕ) where
  -- a data cluster with one reference is no fixed cluster, no table, and no other entry's
  pub dat_fix : (i j : ℕ) → i < L → j < E → dat i j ≢ 0 → refs L E fix tab dat (dat i j) ≤ 1 → fix (dat i j) ≡ 0
  dat_fix i j l k z m = omega (arith, refs_dat L E fix tab dat (dat i j) i j l k, hit_self (dat i j) z)

  pub dat_tab : (i j a : ℕ) → i < L → j < E → a < L → dat i j ≢ 0 → refs L E fix tab dat (dat i j) ≤ 1 → dat i j ≢ tab a
  dat_tab i j a l k p z m e =
      omega (arith, refs_all L E fix tab dat (dat i j) a i j p l k, hit_self (dat i j) z, sym (ap (hit (dat i j)) e))

  pub dat_dat : (i j a b : ℕ) → i < L → j < E → a < L → b < E → (a ≢ i) ⊎ (b ≢ j) → dat i j ≢ 0 → refs L E fix tab dat (dat i j) ≤ 1 → dat i j ≢ dat a b
  dat_dat i j a b l k p q d z m e =
      omega (arith, refs_dats L E fix tab dat (dat i j) i j a b l k p q d, hit_self (dat i j) z, sym (ap (hit (dat i j)) e))

  -- so is a table with one reference
  pub tab_fix : (i : ℕ) → i < L → tab i ≢ 0 → refs L E fix tab dat (tab i) ≤ 1 → fix (tab i) ≡ 0
  tab_fix i l z m = omega (arith, refs_tab L E fix tab dat (tab i) i l, hit_self (tab i) z)

  pub tab_tab : (i a : ℕ) → i < L → a < L → a ≢ i → tab i ≢ 0 → refs L E fix tab dat (tab i) ≤ 1 → tab i ≢ tab a
  tab_tab i a l p d z m e =
      omega (arith, refs_tabs L E fix tab dat (tab i) a i p l d, hit_self (tab i) z, sym (ap (hit (tab i)) e))

  pub tab_dat : (i a b : ℕ) → i < L → a < L → b < E → tab i ≢ 0 → refs L E fix tab dat (tab i) ≤ 1 → tab i ≢ dat a b
  tab_dat i a b l p q z m e =
      omega (arith, refs_all L E fix tab dat (tab i) i a b l p q, hit_self (tab i) z, sym (ap (hit (tab i)) e))

  -- a fixed cluster is no table and no data cluster
  pub fix_tab : (c i : ℕ) → i < L → c ≢ 0 → refs L E fix tab dat c ≤ 1 → 1 ≤ fix c → c ≢ tab i
  fix_tab c i l z m f e = omega (arith, refs_tab L E fix tab dat c i l, hit_self c z, sym (ap (hit c) e))

  pub fix_dat : (c i j : ℕ) → i < L → j < E → c ≢ 0 → refs L E fix tab dat c ≤ 1 → 1 ≤ fix c → c ≢ dat i j
  fix_dat c i j l k z m f e = omega (arith, refs_dat L E fix tab dat c i j l k, hit_self c z, sym (ap (hit c) e))

-- a cluster that nothing refers to is none of them
module _ (L E : ℕ) (fix tab : ℕ → ℕ) (dat : ℕ → ℕ → ℕ) (c : ℕ) (free : refs L E fix tab dat c ≡ 0) (z : c ≢ 0) where
  pub free-fix : fix c ≡ 0
  free-fix = omega (arith, refs_fix L E fix tab dat c)

  pub free_tab : (i : ℕ) → i < L → c ≢ tab i
  free_tab i l e = omega (arith, refs_tab L E fix tab dat c i l, hit_self c z, sym (ap (hit c) e))

  pub free_dat : (i j : ℕ) → i < L → j < E → c ≢ dat i j
  free_dat i j l k e = omega (arith, refs_dat L E fix tab dat c i j l k, hit_self c z, sym (ap (hit c) e))
