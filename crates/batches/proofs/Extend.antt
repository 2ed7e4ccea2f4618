-- One more call of a batch: more uses of clusters, and its units after those of the calls before it. Assumes nothing.
use mathlib.Core.Path.{◌≡◌, sym, ap, ◌∙◌}
use mathlib.Core.Logic.{◌⊎◌, inl, inr, ◌≢◌}
use mathlib.Core.List.{List, [], ◌∷◌, ◌++◌}
use Prim.Native.Nat.{ℕ, ◌≤◌, ◌<◌}
use native.Mathlib.Omega.{arith}
use Rattle.cuts.proofs.Cell.{mem}
use Rattle.cuts.proofs.Meta.{Geo, GeoOk, Codec, cnt, l1, l2, tab, refs_of}
use Rattle.cuts.proofs.Run.{Store, apply_all, apply_append, Each, each_append}
use Rattle.cuts.proofs.Step.{free-not-0}
use Rattle.cuts.proofs.Call.{Ok}
use Rattle.batches.proofs.Mixture.{Use, unused, table, datum, used_table, used_datum, Linked, Place, Put, Old, Mixture, use_or}
use Rattle.batches.proofs.Prepared.{Ready, Raises, here, later}
use Rattle.batches.proofs.Joined.{Linking, enters, links}
use Rattle.batches.proofs.Lists.{Whole, all_whole, each_map, Merge, empty, left, right}
use Rattle.batches.proofs.Order.{cell_at, Cell, Touch, sets, passes, Effect, stays, becomes, effect}
use Rattle.batches.proofs.Planned.{Tabled, Lowers, lowers, Planned, Settled}

pub merge_append : {a b c a' b' c' : List Store} → Merge a b c → Merge a' b' c' → Merge (a ++ a') (b ++ b') (c ++ c')
merge_append empty n = n
merge_append (left m) n = left (merge_append m n)
merge_append (right m) n = right (merge_append m n)

-- a list and none
pub merge-all-left : (a : List Store) → Merge a [] a
merge-all-left [] = empty
merge-all-left (u ∷ a) = left (merge-all-left a)

pub merge-all-right : (a : List Store) → Merge [] a a
merge-all-right [] = empty
merge-all-right (u ∷ a) = right (merge-all-right a)

-- one list after the other
pub merge-after : (a b : List Store) → Merge a b (a ++ b)
merge-after [] b = merge-all-right b
merge-after (u ∷ a) b = left (merge-after a b)

-- more clusters have a use
abbrev pub Grows : (role role' : ℕ → Use) → Type 0
Grows role role' = (c : ℕ) → role c ≢ unused → role' c ≡ role c

module _ (g : Geo) (K : Codec) (m : ℕ → ℕ → ℕ) (role role' : ℕ → Use) (more : Grows role role') where
  grown : (c : ℕ) (u : Use) → u ≢ unused → role c ≡ u → role' c ≡ u
  grown c u d e = more c (λ z. d (sym e ∙ z)) ∙ e

  pub grow_linked : (i e : ℕ) → Linked g K m role i e → Linked g K m role' i e
  grow_linked i e k =
      record { active = k.active; before = k.before; some = k.some; good = k.good; own = k.own; free = k.free; used = grown (K.clus e) (table i) (used_table i) k.used }

  pub grow_put : (i j e : ℕ) → Put g K m role i j e → Put g K m role' i j e
  grow_put i j e p = record { active = p.active; good = p.good; own = p.own; plain = p.plain; left = p.left; place = go p.place }
    where
      go : Place g K m role i j (K.clus e) → Place g K m role' i j (K.clus e)
      go (inl z) = inl z
      go (inr (inl z)) = inr (inl z)
      go (inr (inr z)) = inr (inr (z.0, grown (K.clus e) (datum i j) (used_datum i j) z.1))

  pub grow_mix : (x : ℕ → ℕ → ℕ) → Mixture g K m role x → Mixture g K m role' x
  grow_mix x w = record { small = w.small; rts = w.rts; l1s = λ i l. first i (w.l1s i l); l2s = λ i j l k d. second i j (w.l2s i j l k d) }
    where
      first : (i : ℕ) → (l1 g x i ≡ l1 g m i) ⊎ Linked g K m role i (l1 g x i) → (l1 g x i ≡ l1 g m i) ⊎ Linked g K m role' i (l1 g x i)
      first i (inl e) = inl e
      first i (inr k) = inr (grow_linked i _ k)

      second : (i j : ℕ) → Old g K m role i j (l2 g x (tab g K x i) j) ⊎ Put g K m role i j (l2 g x (tab g K x i) j)
          → Old g K m role' i j (l2 g x (tab g K x i) j) ⊎ Put g K m role' i j (l2 g x (tab g K x i) j)
      second i j (inl o) = inl (record { some = o.some; entry = o.entry })
      second i j (inr p) = inr (grow_put i j _ p)

module _ (g : Geo) (K : Codec) (ok : GeoOk g K) (m0 : ℕ → ℕ → ℕ) (img : List ℕ) (k0 : Ok g K m0 img) where
  abbrev m : ℕ → ℕ → ℕ
  m = mem g.C img

  grow_linking : (role role' : ℕ → Use) → Grows role role' → (u : Store) → Linking g K ok m0 img k0 role u → Linking g K ok m0 img k0 role' u
  grow_linking role role' more u (enters i j v l k lv t one q) = enters i j v l k lv t one (grow_put g K m role role' more i j v q)
  grow_linking role role' more u (links i t l hi t_n t0 z act free used) = links i t l hi t_n t0 z act free (more t (λ e. used_table i (sym used ∙ e)) ∙ used)

  raises_left : (c : ℕ) {a : List Store} (b : List Store) → Raises g K ok m0 img c a → Raises g K ok m0 img c (a ++ b)
  raises_left c b (here v o lv r) = here v o lv r
  raises_left c b (later h) = later (raises_left c b h)

  raises_right : (c : ℕ) (a : List Store) {b : List Store} → Raises g K ok m0 img c b → Raises g K ok m0 img c (a ++ b)
  raises_right c [] h = h
  raises_right c (u ∷ a) h = later (raises_right c a h)

  pub lowers_touch : (dead : ℕ → Type 0) (s : List ℕ) (u : Store) → Lowers g K ok m0 img k0 dead s u → Touch g K ok m0 img k0 dead u
  lowers_touch dead s u (lowers c v h lv d n) = sets c v h lv d

  touch_less : {P Q : ℕ → Type 0} → ((c : ℕ) → P c → Q c) → (u : Store) → Touch g K ok m0 img k0 P u → Touch g K ok m0 img k0 Q u
  touch_less h u (sets c v l lv p) = sets c v l lv (h c p)
  touch_less h u (passes w f a) = passes w f a

  -- counts that rise later change places with those that have fallen
  turned : (dead dead' : ℕ → Type 0) (r' f f' : List Store) (a s s' : List ℕ) (c : ℕ) → Cell g K ok m0 img k0 c → Whole g.C g.N a → Whole g.C g.N s
      → Each (Touch g K ok m0 img k0 (λ n. dead n → ⊥)) r' → Each (Touch g K ok m0 img k0 dead) f → Each (Touch g K ok m0 img k0 dead') f'
      → cell_at g K ok m0 img k0 (apply_all g.C f a) c ≡ cell_at g K ok m0 img k0 s c
      → cell_at g K ok m0 img k0 (apply_all g.C f' (apply_all g.C r' s)) c ≡ cell_at g K ok m0 img k0 s' c
      → cell_at g K ok m0 img k0 (apply_all g.C f' (apply_all g.C f (apply_all g.C r' a))) c ≡ cell_at g K ok m0 img k0 s' c
  turned dead dead' r' f f' a s s' c l wa ws tr tf tf' e e' = last (effect g K ok m0 img k0 dead' tf' c l) (effect g K ok m0 img k0 (λ n. dead n → ⊥) tr c l) (effect g K ok m0 img k0 dead tf c l)
    where
      wr : Whole g.C g.N (apply_all g.C r' a)
      wr = all_whole g.C g.N r' a wa

      ws' : Whole g.C g.N (apply_all g.C r' s)
      ws' = all_whole g.C g.N r' s ws

      before : Effect g K ok m0 img k0 (λ n. dead n → ⊥) r' c → Effect g K ok m0 img k0 dead f c → cell_at g K ok m0 img k0 (apply_all g.C f (apply_all g.C r' a)) c ≡ cell_at g K ok m0 img k0 (apply_all g.C r' s) c
      before (becomes v h d) (becomes w k p) = absurd (d p)
      before (becomes v h d) (stays k) = k _ wr ∙ h a wa ∙ sym (h s ws)
      before (stays h) (becomes w k p) = k _ wr ∙ sym (k a wa) ∙ e ∙ sym (h s ws)
      before (stays h) (stays k) = k _ wr ∙ h a wa ∙ sym (k a wa) ∙ e ∙ sym (h s ws)

      last : Effect g K ok m0 img k0 dead' f' c → Effect g K ok m0 img k0 (λ n. dead n → ⊥) r' c → Effect g K ok m0 img k0 dead f c
          → cell_at g K ok m0 img k0 (apply_all g.C f' (apply_all g.C f (apply_all g.C r' a))) c ≡ cell_at g K ok m0 img k0 s' c
      last (becomes v h p) x y = h _ (all_whole g.C g.N f _ wr) ∙ sym (h _ ws') ∙ e'
      last (stays h) x y = h _ (all_whole g.C g.N f _ wr) ∙ before x y ∙ sym (h _ ws') ∙ e'

  -- what one more call adds, and what it leaves in memory
  pub record Step (role role' : ℕ → Use) (dead dead' : ℕ → Type 0) (r l f : List Store) (s s' : List ℕ) : Type 0 where
    pub grows : Grows role role'
    pub dying : (c : ℕ) → dead c → dead' c
    pub both : List Store
    pub every : List Store
    pub first : Merge r l both
    pub second : Merge both f every
    pub is : apply_all g.C every s ≡ s'
    pub fine : Ok g K m0 s'
    pub mix : Mixture g K m role' (mem g.C s')
    pub ready : Each (Ready g K ok m0 img) r
    pub linking : Each (Linking g K ok m0 img k0 role') l
    pub falling : Each (Lowers g K ok m0 img k0 dead' s') f
    pub fewer : (c : ℕ) → c < g.N → dead c → refs_of g K (mem g.C s') c ≤ refs_of g K (mem g.C s) c
    pub taken : (c : ℕ) → c < g.N → role c ≡ unused → role' c ≢ unused → (refs_of g K m c ≡ 0) × Raises g K ok m0 img c r × (cnt g m c ≡ 0)
    pub tables : (t i : ℕ) → t < g.N → role' t ≡ table i → Tabled g K s' t i
    pub stays : (a : ℕ) → a < g.L → tab g K (mem g.C s) a ≢ 0 → tab g K (mem g.C s') a ≡ tab g K (mem g.C s) a
    -- counts rise where none has fallen; and stored before those that fall, they leave what the call leaves
    pub touch : Each (Touch g K ok m0 img k0 (λ c. dead c → ⊥)) r
    pub order : (c : ℕ) → Cell g K ok m0 img k0 c → cell_at g K ok m0 img k0 (apply_all g.C f (apply_all g.C r s)) c ≡ cell_at g K ok m0 img k0 s' c
    pub counted : (c : ℕ) → c < g.N → dead' c ⊎ (((role' c ≢ unused) × (1 ≤ cnt g (mem g.C s') c)) ⊎ ((role' c ≡ unused) × (cnt g (mem g.C s') c ≡ cnt g m c)))

  module _ (role role' : ℕ → Use) (dead dead' : ℕ → Type 0) (r l f r' l' f' : List Store) (s s' : List ℕ)
      (p : Planned g K ok m0 img k0 role dead r l f s) (q : Step role role' dead dead' r' l' f' s s') where
    still_lowers : (u : Store) → Lowers g K ok m0 img k0 dead s u → Lowers g K ok m0 img k0 dead' s' u
    still_lowers u (lowers c v h lv d n) = lowers c v h lv (q.dying c d) (omega (arith, n, q.fewer c h d))

    pub extend : Planned g K ok m0 img k0 role' dead' (r ++ r') (l ++ l') (f ++ f') s'
    extend =
        record {
          fine = q.fine;
          both = p.both ++ q.both;
          every = p.every ++ q.every;
          first = merge_append p.first q.first;
          second = merge_append p.second q.second;
          is = apply_append g.C p.every q.every img ∙ ap (apply_all g.C q.every) p.is ∙ q.is;
          mix = q.mix;
          ready = each_append p.ready q.ready;
          linking = each_append (each_map (grow_linking role role' q.grows) p.linking) q.linking;
          falling = each_append (each_map still_lowers p.falling) q.falling;
          free = λ c h d. frees c h d (use_or (role c));
          raise = λ c h d. raises c h d (use_or (role c));
          bare = λ c h d. bares c h d (use_or (role c));
          tables = q.tables;
          order = λ c h. rw (apply_append g.C r r' img, apply_append g.C f f' (apply_all g.C r' (apply_all g.C r img)))
              (turned dead dead' r' f f' (apply_all g.C r img) s s' c h (all_whole g.C g.N r img k0.len) p.fine.len q.touch (each_map (lowers_touch dead s) p.falling) (each_map (lowers_touch dead' s') q.falling) (p.order c h) (q.order c h));
          counted = q.counted;
        }
      where
        frees : (c : ℕ) → c < g.N → role' c ≢ unused → (role c ≡ unused) ⊎ (role c ≢ unused) → refs_of g K m c ≡ 0
        frees c h d (inl e) = (q.taken c h e d).0
        frees c h d (inr e) = p.free c h e

        bares : (c : ℕ) → c < g.N → role' c ≢ unused → (role c ≡ unused) ⊎ (role c ≢ unused) → cnt g m c ≡ 0
        bares c h d (inl e) = (q.taken c h e d).2
        bares c h d (inr e) = p.bare c h e

        raises : (c : ℕ) → c < g.N → role' c ≢ unused → (role c ≡ unused) ⊎ (role c ≢ unused) → Raises g K ok m0 img c (r ++ r')
        raises c h d (inl e) = raises_right c r (q.taken c h e d).1
        raises c h d (inr e) = raises_left c r' (p.raise c h e)

  -- ---- one after the other
  module _ (role role' role'' : ℕ → Use) (dead dead' dead'' : ℕ → Type 0) (r l f r' l' f' : List Store) (s s' s'' : List ℕ)
      (whole_s : Whole g.C g.N s) (p : Step role role' dead dead' r l f s s') (q : Step role' role'' dead' dead'' r' l' f' s' s'') where
    more : Grows role role''
    more c d = q.grows c (λ z. d (sym (p.grows c d) ∙ z)) ∙ p.grows c d

    later_lowers : (u : Store) → Lowers g K ok m0 img k0 dead' s' u → Lowers g K ok m0 img k0 dead'' s'' u
    later_lowers u (lowers c v h lv d n) = lowers c v h lv (q.dying c d) (omega (arith, n, q.fewer c h d))

    pub compose : Step role role'' dead dead'' (r ++ r') (l ++ l') (f ++ f') s s''
    compose =
        record {
          grows = more;
          dying = λ c d. q.dying c (p.dying c d);
          both = p.both ++ q.both;
          every = p.every ++ q.every;
          first = merge_append p.first q.first;
          second = merge_append p.second q.second;
          is = apply_append g.C p.every q.every s ∙ ap (apply_all g.C q.every) p.is ∙ q.is;
          fine = q.fine;
          mix = q.mix;
          ready = each_append p.ready q.ready;
          linking = each_append (each_map (grow_linking role' role'' q.grows) p.linking) q.linking;
          falling = each_append (each_map later_lowers p.falling) q.falling;
          fewer = λ c h d. omega (arith, q.fewer c h (p.dying c d), p.fewer c h d);
          taken = λ c h e d. took c h e d (use_or (role' c));
          tables = q.tables;
          touch = each_append p.touch (each_map (touch_less (λ c d z. d (p.dying c z))) q.touch);
          order = λ c h. rw (apply_append g.C r r' s, apply_append g.C f f' (apply_all g.C r' (apply_all g.C r s)))
              (turned dead' dead'' r' f f' (apply_all g.C r s) s' s'' c h (all_whole g.C g.N r s whole_s) p.fine.len q.touch (each_map (lowers_touch dead' s') p.falling) (each_map (lowers_touch dead'' s'') q.falling) (p.order c h) (q.order c h));
          stays = λ a h d. let e : tab g K (mem g.C s') a ≡ tab g K (mem g.C s) a = p.stays a h d in q.stays a h (λ y. d (sym e ∙ y)) ∙ e;
          counted = q.counted;
        }
      where
        took : (c : ℕ) → c < g.N → role c ≡ unused → role'' c ≢ unused → (role' c ≡ unused) ⊎ (role' c ≢ unused) → (refs_of g K m c ≡ 0) × Raises g K ok m0 img c (r ++ r') × (cnt g m c ≡ 0)
        took c h e d (inl z) = ((q.taken c h z d).0, raises_right c r (q.taken c h z d).1, (q.taken c h z d).2)
        took c h e d (inr z) = ((p.taken c h e z).0, raises_left c r' (p.taken c h e z).1, (p.taken c h e z).2)

  -- where no call is under way before it, none is after it
  pub settle : (role role' : ℕ → Use) (dead dead' : ℕ → Type 0) (r l f r' l' f' : List Store) (s s' : List ℕ) → Planned g K ok m0 img k0 role dead r l f s
      → Settled g K ok m0 img k0 role s → Step role role' dead dead' r' l' f' s s'
      → ((t i : ℕ) → t < g.N → role' t ≡ table i → (role t ≡ table i) ⊎ (tab g K (mem g.C s') i ≡ t)) → Settled g K ok m0 img k0 role' s'
  settle role role' dead dead' r l f r' l' f' s s' p w q h t i n e = go (h t i n e)
    where
      go : (role t ≡ table i) ⊎ (tab g K (mem g.C s') i ≡ t) → tab g K (mem g.C s') i ≡ t
      go (inr y) = y
      go (inl y) =
          q.stays i (p.tables t i n y).0 (λ d. free-not-0 g K ok m k0.sound t (p.free t n (λ b. used_table i (sym y ∙ b))) (sym (w t i n y) ∙ d)) ∙ w t i n y
