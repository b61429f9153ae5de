-- Places in the block of a unique pointer.
use Rattle.std.proofs.Common.{◌≡◌, ℕ, zero, suc, ◌<◌, Bool, false, inl, inr, Some, None, List, [], ◌∷◌, refl, sym, ◌∙◌, ap, subst, arith}
use Rattle.std.specs.Prelude.{◌*◌}
use Rattle.cyc_words.specs.declared.faults.Kind.TheVariants.{NullException}
use Rattle.source_meaning.specs.Memory as memory
use Rattle.source_meaning.specs.Memory.{Born, Spot, Scalar, Holds, Live, Memory, beyond}
use Rattle.source_meaning.specs.Steps.{Step, Scope, Act, give, ◌>>=◌}
use Rattle.source_meaning.specs.Conversions.{one, integer, accessed}
use Rattle.source_meaning.specs.Places.{indexed_span}
use Rattle.source_typing.specs.Converts.{IsInteger}
use Rattle.source_typing.specs.Scope.{Env, InBlock}
use Rattle.source_typing.specs.States.{States}
use Rattle.source_typing.specs.Types.{StaticType, Unique, renamed}
use Rattle.type_proof.specs.Flat.{Tables}
use Rattle.type_proof.proofs.invariant.Invariant.{RunType, Owner, InCell, Private, Ghost, HasType, CellOk, StateOk, Inv, Grows}
use Rattle.type_proof.proofs.invariant.Facts.{at_start}
use Rattle.type_proof.proofs.invariant.Growth.{grows_trans}
use Rattle.type_proof.proofs.invariant.Runs.{Safe, Runs, safe_raised}
use Rattle.type_proof.proofs.invariant.After.{After, base_later}
use Rattle.type_proof.proofs.invariant.Names.{NameOf}
use Rattle.type_proof.proofs.invariant.Standing.{Standing}
use Rattle.type_proof.proofs.invariant.Scenes.{Scene}
use Rattle.type_proof.proofs.invariant.Cells.{cell}
use Rattle.type_proof.proofs.invariant.Rights.{HeldAt, content_same}
use Rattle.type_proof.proofs.invariant.Sound.{Anchored, InOwn, Shows, ShowsHeld, PlaceStands}
use Rattle.type_proof.proofs.expressions.Elements.{runs_element}
use Rattle.type_proof.proofs.expressions.Operands.{runs_word}

-- a unique pointer in a private cell that isn't NULL leads to a live block
holder_leads : (d : Tables) (w : Ghost) (m : Memory) (at : Spot) (v : Scalar) (nullable : Bool) (t : RunType) → Inv d w m
    → w.types at ≡ Some (Private (Unique nullable t)) → m.cells at ≡ Some (cell (Unique nullable t) (Holds v)) → HasType d w (InCell at) v (Unique nullable t)
holder_leads d w m at v nullable t i typed holds =
    let x : CellOk d w at (m.cells at) (Private (Unique nullable t)) = i.cells at (Private (Unique nullable t)) typed in
    let ok : (u : Scalar) → x.content ≡ Holds u → HasType d w (InCell at) u (Unique nullable t) = x.ok in
    ok v (content_same _ (Unique nullable t) x.content (Holds v) x.is holds)

owner_live : (d : Tables) (w : Ghost) (m : Memory) (at : Spot) (c : ℕ) → Inv d w m → w.owner (Born c) ≡ InCell at → w.keyed (Born c) ≡ false
    → m.state (Born c) ≡ Live
owner_live d w m at c i a u =
    let e : StateOk (InCell at) false (m.state (Born c)) = subst (λ (z : Owner). StateOk z false (m.state (Born c))) a
    (subst (λ (z : Bool). StateOk (w.owner (Born c)) z (m.state (Born c))) u (i.states (Born c))) in e

-- it stays so while what is evaluated leaves the function's private cells alone
pub anchored_later : (d : Tables) (k : ℕ) (w : Ghost) (m : Memory) (w' : Ghost) (m' : Memory) (at : Spot) → Inv d w' m' → Grows k m.activations w m w' m'
    → Anchored w m at → Anchored w' m' at × (m'.state at.region ≡ Live)
anchored_later d k w m w' m' at i g a = (
  record {
    holder = a.holder;
    nullable = a.nullable;
    to = a.to;
    typed = typed;
    pointer = a.pointer;
    holds = holds;
    same = a.same;
    frame = a.frame;
    lies = a.lies;
    known = base_later k m.activations (suc a.frame) w m w' m' (let z : a.frame < m.activations = a.known in omega (arith, z)) g;
  },
  by (holder_leads d w' m' a.holder (memory.Thin (Some a.pointer)) a.nullable a.to i typed holds),
)
  where
    typed : w'.types a.holder ≡ Some (Private (Unique a.nullable a.to))
    typed = g.types a.holder (Private (Unique a.nullable a.to)) a.typed

    holds : m'.cells a.holder ≡ Some (cell (Unique a.nullable a.to) (Holds (memory.Thin (Some a.pointer))))
    holds = g.kept a.holder (Unique a.nullable a.to) a.frame a.lies a.known a.typed ∙ a.holds

    region_of : Scalar → memory.Region
    region_of (memory.Thin (Some s)) = s.region
    region_of v = Born 0

    by : HasType d w' (InCell a.holder) (memory.Thin (Some a.pointer)) (Unique a.nullable a.to) → m'.state at.region ≡ Live
    by (inl h) = absurd (let z : memory.Thin (Some a.pointer) ≡ memory.Thin None = h.is in cc)
    by (inr h) = ap m'.state (a.same ∙ ap region_of h.is) ∙ owner_live d w' m' a.holder h.block i h.owner h.unkeyed

-- what is done with a pointer: NULL raises, and else its place is found
pub record Leads (n : ℕ) (reach : Scalar → Act Spot) : Type 0 where
  pub none : (next : Spot → Memory → Step) (m : Memory) → Safe n (reach (memory.Thin None) next m)
  pub some : (s : Spot) (next : Spot → Memory → Step) (m : Memory) → Safe n (next s m) → Safe n (reach (memory.Thin (Some s)) next m)

-- `*e` and `e->`
accessed_leads : (n cells : ℕ) → Leads n (accessed cells)
accessed_leads n cells = record { none = λ next m. safe_raised n NullException; some = λ s next m h. h }

-- `e[j]`: an index that isn't 0 raises
indexed_leads : (n cells j : ℕ) → Leads n (λ v. indexed_span 1 j v >>= λ p. accessed cells p)
indexed_leads n cells j = record {
  none = λ next m. safe_raised n NullException;
  some = λ s next m h. (runs_element n cells (record { first = s; count = 1; index = j }) give m (λ a m'. Safe n (next a m')) (λ l. record {
    by = λ next2 q. q (beyond s (j * cells)) m (subst (λ (a : Spot). Safe n (next a m)) (sym (first s j l)) h);
  })).by next (λ a m' y. y);
}
  where
    first : (s : Spot) (j : ℕ) → j < 1 → beyond s (j * cells) ≡ s
    first s zero l = at_start s cells
    first s (suc j) l = absurd (omega (arith, l))

module _ (n : ℕ) (d : Tables) (g : Env) (scope : Scope) (f : NameOf → memory.Region) (b low : ℕ) where
  -- the place to which a unique pointer in a private cell leads: its block is there and live
  finds_led : (s s2 : States) (nullable : Bool) (t : StaticType) (k : ℕ) (act : Act (List Scalar)) (reach : Scalar → Act Spot) (w : Ghost) (m : Memory)
      → Leads n reach → ShowsHeld n d g scope f b low s s2 (Unique nullable t) act → Inv d w m → Scene d g scope f b low s k w m
      → Runs n (act >>= one >>= reach) m (λ at.
      After d k b w m (λ w' m'. PlaceStands d f low false InBlock t at w' m' × Standing d g scope f s2 w' m'))
  finds_led s s2 nullable t k act reach w m leads shows i x = record {
    by = λ next q. (shows k w m i x).by (λ vs. (one vs >>= reach) next)
        (λ vs m1 y. (held vs y.ghost m1 y.holds.0.0 y.holds.0.1 y.holds.0.2 y.inv y.grows y.holds.1).by next q);
  }
    where
      post : Spot → Memory → Type 0
      post at = After d k b w m (λ w' m'. PlaceStands d f low false InBlock t at w' m' × Standing d g scope f s2 w' m')

      reached : (v : Scalar) (w1 : Ghost) (m1 : Memory) (o : Spot) → w1.types o ≡ Some (Private (Unique nullable (renamed f t)))
          → m1.cells o ≡ Some (cell (Unique nullable (renamed f t)) (Holds v)) → InOwn low o m1
          → HasType d w1 (InCell o) v (Unique nullable (renamed f t)) → Inv d w1 m1
          → Grows k b w m w1 m1
          → Standing d g scope f s2 w1 m1
          → Runs n (reach v) m1 post
      reached v w1 m1 o typed holds own (inl x) i1 g1 st1 = subst (λ (u : Scalar). Runs n (reach u) m1 post) (sym x.is)
          (record { by = λ next q. leads.none next m1 })
      reached v w1 m1 o typed holds own (inr x) i1 g1 st1 = subst (λ (u : Scalar). Runs n (reach u) m1 post) (sym x.is) (record {
        by = λ next q. leads.some (record { region = Born x.block; object = 0; cell = 0 }) next m1
            (q (record { region = Born x.block; object = 0; cell = 0 }) m1 (record {
              ghost = w1;
              inv = i1;
              grows = g1;
              holds = (
                (
                  x.reaches.typed,
                  owner_live d w1 m1 o x.block i1 x.owner x.unkeyed,
                  record {
                    holder = o;
                    nullable = nullable;
                    to = renamed f t;
                    typed = typed;
                    pointer = record { region = Born x.block; object = 0; cell = 0 };
                    holds = holds ∙ ap (λ (u : Scalar). Some (cell (Unique nullable (renamed f t)) (Holds u))) x.is;
                    same = refl;
                    frame = own.frame;
                    lies = own.region;
                    known = own.known;
                  },
                ),
                st1,
              );
            }));
      })

      held : (vs : List Scalar) (w1 : Ghost) (m1 : Memory) (o : Spot) → HeldAt w1 m1 o (Unique nullable (renamed f t) ∷ []) vs → InOwn low o m1 → Inv d w1 m1
          → Grows k b w m w1 m1 → Standing d g scope f s2 w1 m1 → Runs n (one vs >>= reach) m1 post
      held [] w1 m1 o h own i1 g1 st1 = absurd h
      held (v ∷ []) w1 m1 o h own i1 g1 st1 = record {
        by = λ next q. (reached v w1 m1 o h.0 h.1 own (holder_leads d w1 m1 o v nullable (renamed f t) i1 h.0 h.1) i1 g1 st1).by next q;
      }
      held (v ∷ u ∷ vs) w1 m1 o h own i1 g1 st1 = absurd h.2

  -- `*e` and `e->` of a unique pointer that a private cell holds
  pub finds_block : (s s2 : States) (nullable : Bool) (t : StaticType) (cells k : ℕ) (act : Act (List Scalar)) (w : Ghost) (m : Memory)
      → ShowsHeld n d g scope f b low s s2 (Unique nullable t) act → Inv d w m → Scene d g scope f b low s k w m
      → Runs n (act >>= one >>= λ v. accessed cells v) m (λ at.
      After d k b w m (λ w' m'. PlaceStands d f low false InBlock t at w' m' × Standing d g scope f s2 w' m'))
  finds_block s s2 nullable t cells k act w m shows i x = finds_led s s2 nullable t k act (accessed cells) w m (accessed_leads n cells) shows i x

  -- and `e[c]`: the index goes first
  pub finds_block_element : (s0 s1 s2 : States) (nullable : Bool) (t u : StaticType) (cells k : ℕ) (index act : Act (List Scalar)) (w : Ghost) (m : Memory)
      → IsInteger u → Shows n d g scope f b low s0 s1 u index → ShowsHeld n d g scope f b low s1 s2 (Unique nullable t) act → Inv d w m
      → Scene d g scope f b low s0 k w m
      → Runs n (index >>= one >>= integer >>= λ j. act >>= one >>= indexed_span 1 j >>= λ p. accessed cells p) m (λ at.
      After d k b w m (λ w' m'. PlaceStands d f low false InBlock t at w' m' × Standing d g scope f s2 w' m'))
  finds_block_element s0 s1 s2 nullable t u cells k index act w m iu hi ha i x =
      runs_word n d g scope f b low s0 s1 u index (λ y. integer y >>= λ j. act >>= one >>= indexed_span 1 j >>= λ p. accessed cells p) k w m
      (λ at. After d k b w m (λ w' m'. PlaceStands d f low false InBlock t at w' m' × Standing d g scope f s2 w' m')) iu hi i x
      (λ c j w1 m1 e1 i1 g1 x1. record {
        by = λ next q. (finds_led s1 s2 nullable t k act (λ v. indexed_span 1 j v >>= λ p. accessed cells p) w1 m1 (indexed_leads n cells j) ha i1 x1).by next
            (λ at m2 y. q at m2 (record { ghost = y.ghost; inv = y.inv; grows = grows_trans g1 y.grows; holds = y.holds }));
      })
