-- An entry that a call of a batch stores: what stays known, what is known of its value, and that the guest does not see it before the entries.
-- Assumes nothing.
use mathlib.Core.Path.{◌≡◌, sym, ap, ◌∙◌}
use mathlib.Core.Logic.{◌≢◌}
use mathlib.Core.List.{List}
use Prim.Native.Nat.{ℕ, ◌*◌, ◌^◌, ◌≤◌, ◌<◌}
use Rattle.cuts.proofs.Cell.{enc, small-enc, Stored, mem}
use Rattle.cuts.proofs.Meta.{Geo, GeoOk, Codec, l2, tab, dat, refs_of}
use Rattle.cuts.proofs.Step.{entry_tab, entry_new}
use Rattle.cuts.proofs.Run.{Store, apply, Each, none, also}
use Rattle.cuts.proofs.Call.{Ok, entry_store}
use Rattle.batches.proofs.Mixture.{mix_free, Use, Put}
use Rattle.batches.proofs.Stores.{Laid, laid_entry}
use Rattle.batches.proofs.Planned.{Planned}
use Rattle.batches.proofs.Places.{one_table}
use Rattle.batches.proofs.Steps.{before, among}
use Rattle.batches.proofs.Known.{Known, known_now, knows_entry}
use Rattle.batches.proofs.Unseen.{Hidden, unnamed}
use Rattle.batches.proofs.Shown.{Written, writes}

module _ (g : Geo) (K : Codec) (ok : GeoOk g K) (m0 : ℕ → ℕ → ℕ) (img : List ℕ) (k0 : Ok g K m0 img) (past : (ℕ → ℕ → ℕ) → Type 0) (role : ℕ → Use) (dead : ℕ → Type 0)
    (r l f : List Store) (s : List ℕ) (p : Planned g K ok m0 img k0 role dead r l f s) (i j v : ℕ) (i_l : i < g.L) (j_e : j < g.E) (lv : v < 256 ^ 8)
    (some : tab g K (mem g.C s) i ≢ 0) (alone : refs_of g K (mem g.C s) (tab g K (mem g.C s) i) ≤ 1) (q : Put g K (mem g.C img) role i j v)
    (plain : K.clus v ≢ 0 → K.flag v ≡ 0) (one : dat g K (mem g.C s) i j ≢ 0 → refs_of g K (mem g.C s) (dat g K (mem g.C s) i j) ≤ 1) where
  abbrev m : ℕ → ℕ → ℕ
  m = mem g.C img

  abbrev x : ℕ → ℕ → ℕ
  x = mem g.C s

  abbrev s' : List ℕ
  s' = apply g.C (entry_store g (tab g K x i) j v) s

  lay : Laid g s (tab g K x i) (8 * j) v
  lay = laid_entry g K ok m0 s p.fine i j v i_l j_e

  sm : (k o : ℕ) → mem g.C s' k o < 256
  unfolding apply entry_store
  sm = lay.small

  st : Stored g.C x (mem g.C s') (tab g K x i) (8 * j) (enc 8 v)
  unfolding apply entry_store
  st = lay.stored

  pub enter_knows : (a b w : ℕ) → a < g.L → b < g.E → K.clus w < g.N → Known g K past x dead a b w
      → (K.flag w ≡ 0 → K.clus w ≢ 0 → K.clus w ≡ K.clus v → K.clus v ≡ dat g K x i j) → Known g K past (mem g.C s') dead a b w
  enter_knows = knows_entry g K ok past x (mem g.C s') p.fine.sound dead sm i j v i_l j_e some alone q.good lv plain one st

  same_tab : tab g K (mem g.C s') i ≡ tab g K x i
  same_tab = entry_tab g K ok x p.fine.sound (mem g.C s') sm i j v i_l j_e some alone q.good lv st i i_l

  -- its value is known
  pub enter_known : past (mem g.C s') → Known g K past (mem g.C s') dead i j v
  enter_known now =
      let e : l2 g (mem g.C s') (tab g K (mem g.C s') i) j ≡ v =
      ap (λ (k : ℕ). l2 g (mem g.C s') k j) same_tab ∙ entry_new g K ok x p.fine.sound (mem g.C s') sm i j v i_l j_e some alone q.good lv st in
      rw e at (known_now g K past (mem g.C s') dead i j (λ z. some (sym same_tab ∙ z)) now)

  pub enter_written : (Q : ℕ → ℕ → ℕ → Type 0) → Q i j v → (y : Dec (tab g K m i ≡ 0)) → Each (Written g K ok m0 img k0 role Q) (among y (entry_store g (tab g K x i) j v))
  enter_written Q w (yes z) = none
  enter_written Q w (no d) = let e = one_table g K ok m0 img k0 role x p.mix i i_l d alone in rw e.0 (also (writes i j v i_l j_e lv d e.1 q w) none)

  pub enter_early : (y : Dec (tab g K m i ≡ 0)) → Each (Hidden g K ok m0 img) (before y (entry_store g (tab g K x i) j v))
  unfolding entry_store
  enter_early (no d) = none
  enter_early (yes z) = also (unnamed (tab g K x i) (8 * j) (enc 8 v) lay.in_image lay.in_cluster (small-enc 8 v) (mix_free g K ok m x role k0.sound p.mix i i_l z some)) none
