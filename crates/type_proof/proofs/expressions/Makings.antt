-- Values are made in the heap and in the regions of handles.
use Rattle.std.proofs.Common.{◌≡◌, ℕ, Bool, true, false, Some, List, [], ◌∷◌, inl, ◌⊎◌, inr, refl, sym, ◌∙◌, ap, subst, ◌≤◌}
use Rattle.std.specs.Prelude.{◌&&◌, map}
use Rattle.cyc_words.specs.Events.{RegionAlloc}
use Rattle.source_meaning.specs.Shapes.{NeverNull}
use Rattle.source_meaning.specs.Shapes.{Shared, Shape, ThinShape, HandleShape}
use Rattle.source_meaning.specs.Memory as memory
use Rattle.source_meaning.specs.Memory.{Region, Born, Spot, Scalar, Live, Memory, HandleOf, blank_object, state_is_live}
use Rattle.source_meaning.specs.Steps.{Scope, Act, give, ◌>>=◌, ◌>>◌, show}
use Rattle.source_meaning.specs.Conversions.{cells_of, size_of, one}
use Rattle.source_meaning.specs.Values.{write_cells}
use Rattle.source_meaning.specs.Making.{Maker, InRegion, heap_maker, maker_of, make_object, ask}
use Rattle.source_meaning.specs.Places.{Sense, value_sense}
use Rattle.source_meaning.specs.Calls.{made, handle_maker}
use Rattle.source_typing.specs.Making as rules
use Rattle.source_typing.specs.Making.{Goal, To, NoHandle, made_to, live_goal, handled_of}
use Rattle.source_typing.specs.Regions.{TheHeap}
use Rattle.source_typing.specs.Scope.{Env, Value, is_live}
use Rattle.source_typing.specs.Types.{StaticType, Int, Unsigned, Char, Void, Null, Thin, Fat, Unique, Handle, Key, Struct, Union, is_integer, is_makeable}
use Rattle.source_typing.specs.Types.{renamed}
use Rattle.source_typing.specs.Types.{shape_of}
use Rattle.source_typing.specs.Verdicts.{Of, after, if_fits}
use Rattle.source_typing.proofs.Inversion.{of_is}
use Rattle.source_typing.specs.Moves.{Use, nothing, value_use}
use Rattle.source_typing.specs.States.{States, Passed, then_passed}
use Rattle.type_proof.specs.Flat.{Tables}
use Rattle.source_typing.specs.Named.{Below}
use Rattle.type_proof.proofs.invariant.Values.{only_one}
use Rattle.type_proof.proofs.invariant.Invariant.{Reaches, Reached, Ghost, Opens, HaveTypes, Inv, Grows}
use Rattle.type_proof.proofs.invariant.Growth.{grows_refl, grows_trans}
use Rattle.type_proof.proofs.invariant.Runs.{Safe, Runs, runs_check}
use Rattle.type_proof.proofs.invariant.After.{After, flying, grows_base, runs_show}
use Rattle.type_proof.proofs.invariant.Objects.{FullAt, runs_made, full_laid}
use Rattle.type_proof.proofs.invariant.Arguments.{Agrees}
use Rattle.type_proof.proofs.invariant.Names.{NameOf}
use Rattle.type_proof.proofs.invariant.Scenes.{Scene, scene_later, stands_kept}
use Rattle.type_proof.proofs.invariant.Standing.{Standing}
use Rattle.type_proof.proofs.invariant.Sound.{shape_renamed, cells_type, Gives, Shows, Sound, passed_first, passed_second}
use Rattle.type_proof.proofs.expressions.Words.{IsObjectType, IsSimple, OneValue, one_value, object_some}
use Rattle.type_proof.proofs.expressions.WordRules.{Valued, value_of}
use Rattle.type_proof.proofs.expressions.Forms.{Denotes, Refuses, denotes_refused, denotes_value}

-- ---- what the rules say

-- what can be made is an object
pub makeable_object : (t : StaticType) → IsSimple t → is_makeable t ≡ true → IsObjectType t
makeable_object Int p e = tt
makeable_object Unsigned p e = tt
makeable_object Char p e = tt
makeable_object Void p e = absurd cc
makeable_object Null p e = absurd cc
makeable_object (Thin n r t) p e = p
makeable_object (Fat r t) p e = p
makeable_object (Unique n t) p e = p
makeable_object (Handle r) p e = tt
makeable_object (Key r) p e = absurd cc
makeable_object (Struct tag rs) p e = p
makeable_object (Union tag rs) p e = p

-- a making in the region of a name
pub made_there : (c : Bool) (at : ℕ) (r : NameOf) (t : StaticType) (v : Value) → after (if_fits c at t) (made_to at (To r)) ≡ Of v → (c ≡ true)
    × Valued v (Thin (NeverNull 1) r t)
made_there true at r t v e = (refl, value_of at (Thin (NeverNull 1) r t) v e)
made_there false at r t v e = absurd cc

no_goal : (c : Bool) (at : ℕ) (t : StaticType) (v : Value) → after (if_fits c at t) (made_to at NoHandle) ≡ Of v → ⊥
no_goal true at t v e = cc
no_goal false at t v e = cc

-- a handle that `rnew` takes: its region is live
pub record Handled (g : Env) (t : StaticType) (x : Goal) : Type 0 where
  pub region : NameOf
  pub is : t ≡ Handle region
  pub live : is_live g region ≡ true
  pub goal : x ≡ To region

live_goal_is : (c : Bool) (at : ℕ) (r : NameOf) (x : Goal) → live_goal c at r ≡ Of x → (c ≡ true) × (x ≡ To r)
live_goal_is true at r x e = (refl, sym (of_is (To r) x e))
live_goal_is false at r x e = absurd cc

-- no handle makes nothing
none_made : (at : ℕ) (x : Goal) (a v : Value) (A : Type 0) → Of NoHandle ≡ Of x → rules.made at x a ≡ Of v → A
none_made at x a v A e z =
    absurd (no_goal (is_makeable a.type) at a.type v (subst (λ (y : Goal). rules.made at y a ≡ Of v) (sym (of_is NoHandle x e)) z))

pub handled_is : (g : Env) (at place : ℕ) (t : StaticType) (x : Goal) (a v : Value) → handled_of g at t ≡ Of x → rules.made place x a ≡ Of v → Handled g t x
handled_is g at place (Handle r) x a v e z =
    let y : (is_live g r ≡ true) × (x ≡ To r) = live_goal_is (is_live g r) at r x e in record { region = r; is = refl; live = y.0; goal = y.1 }
handled_is g at place Int x a v e z = none_made place x a v (Handled g Int x) e z
handled_is g at place Unsigned x a v e z = none_made place x a v (Handled g Unsigned x) e z
handled_is g at place Char x a v e z = none_made place x a v (Handled g Char x) e z
handled_is g at place Void x a v e z = none_made place x a v (Handled g Void x) e z
handled_is g at place Null x a v e z = none_made place x a v (Handled g Null x) e z
handled_is g at place (Thin n r t) x a v e z = none_made place x a v (Handled g (Thin n r t) x) e z
handled_is g at place (Fat r t) x a v e z = none_made place x a v (Handled g (Fat r t) x) e z
handled_is g at place (Unique n t) x a v e z = none_made place x a v (Handled g (Unique n t) x) e z
handled_is g at place (Key r) x a v e z = none_made place x a v (Handled g (Key r) x) e z
handled_is g at place (Struct tag rs) x a v e z = none_made place x a v (Handled g (Struct tag rs) x) e z
handled_is g at place (Union tag rs) x a v e z = none_made place x a v (Handled g (Union tag rs) x) e z

-- and so of an array
no_array : (at : ℕ) (x : Goal) (c a v : Value) (A : Type 0) → Of NoHandle ≡ Of x → rules.array_made at x (c, a) ≡ Of v → A
no_array at x c a v A e z =
    absurd (by (is_integer c.type && is_makeable a.type) (subst (λ (y : Goal). rules.array_made at y (c, a) ≡ Of v) (sym (of_is NoHandle x e)) z))
  where
    by : (fits : Bool) → after (if_fits fits at a.type) (rules.array_to at NoHandle) ≡ Of v → ⊥
    by true q = cc
    by false q = cc

pub array_handled : (g : Env) (at place : ℕ) (t : StaticType) (x : Goal) (c a v : Value) → handled_of g at t ≡ Of x
    → rules.array_made place x (c, a) ≡ Of v → Handled g t x
array_handled g at place (Handle r) x c a v e z =
    let y : (is_live g r ≡ true) × (x ≡ To r) = live_goal_is (is_live g r) at r x e in record { region = r; is = refl; live = y.0; goal = y.1 }
array_handled g at place Int x c a v e z = no_array place x c a v (Handled g Int x) e z
array_handled g at place Unsigned x c a v e z = no_array place x c a v (Handled g Unsigned x) e z
array_handled g at place Char x c a v e z = no_array place x c a v (Handled g Char x) e z
array_handled g at place Void x c a v e z = no_array place x c a v (Handled g Void x) e z
array_handled g at place Null x c a v e z = no_array place x c a v (Handled g Null x) e z
array_handled g at place (Thin n r t) x c a v e z = no_array place x c a v (Handled g (Thin n r t) x) e z
array_handled g at place (Fat r t) x c a v e z = no_array place x c a v (Handled g (Fat r t) x) e z
array_handled g at place (Unique n t) x c a v e z = no_array place x c a v (Handled g (Unique n t) x) e z
array_handled g at place (Key r) x c a v e z = no_array place x c a v (Handled g (Key r) x) e z
array_handled g at place (Struct tag rs) x c a v e z = no_array place x c a v (Handled g (Struct tag rs) x) e z
array_handled g at place (Union tag rs) x c a v e z = no_array place x c a v (Handled g (Union tag rs) x) e z

module _ (n : ℕ) (d : Tables) (g : Env) (scope : Scope) (f : NameOf → Region) (b : ℕ) (low : ℕ) where
  -- ---- where a value is made

  -- the region that a name stands for
  pub record Aimed (r : NameOf) (to : Maker) : Type 0 where
    pub birth : ℕ
    pub is : to ≡ InRegion birth
    pub region : f r ≡ Born birth

  abbrev pub Aims : States → States → NameOf → Act Maker → Type 0
  Aims s s2 r act = (k : ℕ) (w : Ghost) (m : Memory) → Inv d w m → Scene d g scope f b low s k w m
      → Runs n act m (λ to. After d k b w m (λ w' m'. Aimed r to × Standing d g scope f s2 w' m'))

  -- it stays live
  abbrev pub Lives : NameOf → Type 0
  Lives r = (s : States) (k : ℕ) (w : Ghost) (m : Memory) → Inv d w m → Scene d g scope f b low s k w m → m.state (f r) ≡ Live

  pub heap_lives : Lives TheHeap
  heap_lives = λ s k w m i x. ap m.state x.names.heap_is ∙ i.heap_lives

  pub aims_at_heap : (s : States) → Aims s s TheHeap heap_maker
  aims_at_heap s = λ k w m i x. record {
    by = λ next q. q (InRegion 0) m (record {
      ghost = w;
      inv = i;
      grows = grows_refl k b w m;
      holds = (record { birth = 0; is = refl; region = x.names.heap_is }, x.stands);
    });
  }

  pub aims_by_handle : (s s2 : States) (r : NameOf) (e : Sense) → Shows n d g scope f b low s s2 (Handle r) e.look → Aims s s2 r (handle_maker e)
  aims_by_handle s s2 r e shows = λ k w m i x. record {
    by = λ next q. (shows k w m i x).by (λ vs. (one vs >>= maker_of) next) (λ vs m1 y.
        let z : OneValue d y.ghost (y.holds.0.by 0) vs (Handle (f r)) = one_value d y.ghost y.holds.0.by vs (Handle (f r)) y.holds.0.typed in
        let o : Opens z.value (f r) = z.typed in
        subst (λ (us : List Scalar). Safe n ((one us >>= maker_of) next m1)) (sym (z.is ∙ ap (λ (u : Scalar). u ∷ []) o.is))
        (q (InRegion o.birth) m1 (record {
          ghost = y.ghost;
          inv = y.inv;
          grows = y.grows;
          holds = (record { birth = o.birth; is = refl; region = o.region }, y.holds.1);
        })));
  }

  -- ---- the value is evaluated, memory is asked for, and the value is stored there

  pub gives_new : (s0 s1 s2 : States) (t : StaticType) (r : NameOf) (to : Act Maker) (e : Sense) → Agrees scope.world d → Lives r → Below g.regions.count r
      → e.shape ≡ shape_of t → Aims s0 s1 r to
      → Gives n d g scope f b low s1 s2 t e.value
      → Gives n d g scope f b low s0 s2 (Thin (NeverNull 1) r t)
      (to >>= λ to. e.value >>= λ vs. ask to (size_of scope.world e.shape) (blank_object (cells_of scope.world e.shape)) >>= λ s.
      write_cells s vs >> give (memory.Thin (Some s) ∷ []))
  gives_new s0 s1 s2 t r to e agrees live below shape aims gives = λ k w m i x. record {
    by = λ next q. (aims k w m i x).by (λ to. (e.value >>= λ vs. stored (ask to bytes (blank_object (cells_of scope.world e.shape))) vs) next) (λ to m1 y.
        let x1 : Scene d g scope f b low s1 k y.ghost m1 = scene_later d g scope f b low s0 s1 k w m y.ghost m1 y.inv y.grows y.holds.1 x in
        subst (λ (p : Maker). Safe n ((e.value >>= λ vs. stored (ask p bytes (blank_object (cells_of scope.world e.shape))) vs) next m1)) (sym y.holds.0.is)
        ((gives k y.ghost m1 y.inv x1).by (λ vs. stored (ask (InRegion y.holds.0.birth) bytes (blank_object (cells_of scope.world e.shape))) vs next)
        (λ vs m2 z.
        (made_here k w m y.holds.0.birth vs z.ghost m2 z.inv (grows_trans y.grows z.grows) z.holds.0 y.holds.0.region
        (scene_later d g scope f b low s1 s2 k y.ghost m1 z.ghost m2 z.inv z.grows z.holds.1 x1)).by next q)));
  }
    where
      bytes : ℕ
      bytes = size_of scope.world e.shape

      stored : Act Spot → List Scalar → Act (List Scalar)
      stored at vs = at >>= λ s. write_cells s vs >> give (memory.Thin (Some s) ∷ [])

      post : ℕ → Ghost → Memory → List Scalar → Memory → Type 0
      post k w m = λ vs. After d k b w m (λ w' m'. HaveTypes d w' (flying k 0) vs (cells_type d f (Thin (NeverNull 1) r t)) × Standing d g scope f s2 w' m')

      cells : cells_of scope.world e.shape ≡ map shape_of (cells_type d f t)
      cells = ap (cells_of scope.world) (shape ∙ sym (shape_renamed f t)) ∙ agrees (renamed f t)

      made_here : (k : ℕ) (w : Ghost) (m : Memory) (birth : ℕ) (vs : List Scalar) (w2 : Ghost) (m2 : Memory) → Inv d w2 m2 → Grows k b w m w2 m2
          → HaveTypes d w2 (flying k 0) vs (cells_type d f t) → f r ≡ Born birth → Scene d g scope f b low s2 k w2 m2
          → Runs n (stored (ask (InRegion birth) bytes (blank_object (cells_of scope.world e.shape))) vs) m2 (post k w m)
      made_here k w m birth vs w2 m2 i2 g2 typed region x2 =
          let lives : m2.state (Born birth) ≡ Live = sym (ap m2.state region) ∙ live s2 k w2 m2 i2 x2 in
          subst (λ (cs : List Shape). Runs n (stored (ask (InRegion birth) bytes (blank_object cs)) vs) m2 (post k w m)) (sym cells)
          (record {
            by = λ next q.
                (runs_check n (memory.is_live m2 (Born birth)) (show (RegionAlloc birth bytes) >>
                (stored (make_object (Born birth) (blank_object (map shape_of (cells_type d f t)))) vs)) m2 (post k w m)
                (ap state_is_live lives)
                (runs_show n (RegionAlloc birth bytes) (stored (make_object (Born birth) (blank_object (map shape_of (cells_type d f t)))) vs) m2 (post k w m)
                (runs_made d n k m2.activations (λ u. Reached u) w2 m2 (Born birth) (cells_type d f t) vs (λ s. give (memory.Thin (Some s) ∷ [])) (post k w m)
                (λ u. refl) i2 lives typed
                (λ at w3 m3 i3 g3 there full st settles. record {
                  by = λ next2 q2. q2 (memory.Thin (Some at) ∷ []) m3 (record {
                    ghost = w3;
                    inv = i3;
                    grows = grows_trans g2 (grows_base x2.base g3);
                    holds = (
                      pointer at w3 m3 i3 (there.region ∙ sym region) full
                          (scene_later d g scope f b low s2 s2 k w2 m2 w3 m3 i3 (grows_base x2.base g3)
                          (stands_kept d g scope f b low s2 k w2 m2 w3 m3 x2 g3) x2),
                      stands_kept d g scope f b low s2 k w2 m2 w3 m3 x2 g3,
                    );
                  });
                })))).by next q;
          })
        where
          pointer : (at : Spot) (w3 : Ghost) (m3 : Memory) → Inv d w3 m3 → at.region ≡ f r → FullAt (λ u. Reached u) w3 m3 at (cells_type d f t) vs
              → Scene d g scope f b low s2 k w3 m3
              → HaveTypes d w3 (flying k 0) (memory.Thin (Some at) ∷ []) (cells_type d f (Thin (NeverNull 1) r t))
          pointer at w3 m3 i3 there full x3 = (
            inr (record {
              at = at;
              is = refl;
              reaches = one;
              elements = only_one d w3 at (f r) (renamed f t) one;
            }),
            tt,
          )
            where
              one : Reaches d w3 at (f r) (renamed f t)
              one = record {
                typed = full_laid w3 m3 at (cells_type d f t) vs full;
                above = ap (λ (q : Region). w3.above q (f r)) there ∙ i3.itself (f r) (x3.names.known r below);
              }

  pub denotes_made : b ≤ low → (at : ℕ) (r : NameOf) (to : Act Maker) (p : States → Passed) (a v : Value) (u : Use) (e : Sense) → Agrees scope.world d → Lives r
      → Below g.regions.count r
      → ((s : States) → (p s).faults ≡ [] → Aims s (p s).states r to) → Denotes n d g scope f b low a u e → rules.made at (To r) a ≡ Of v
      → Denotes n d g scope f b low v (value_use (λ s. then_passed (p s) u.value)) (made scope.world to Shared e)
  denotes_made is at r to p a v u e agrees live below aims h j = by h.sound
    where
      z : (is_makeable a.type ≡ true) × Valued v (Thin (NeverNull 1) r a.type)
      z = made_there (is_makeable a.type) at r a.type v j

      it : IsObjectType a.type
      it = makeable_object a.type h.simple z.0

      by : Sound n d g scope f b low a u h.own e ⊎ Refuses n d g scope f b low u
          → Denotes n d g scope f b low v (value_use (λ s. then_passed (p s) u.value)) (made scope.world to Shared e)
      by (inr y) = denotes_refused n d g scope f b low v (λ s. then_passed (p s) u.value) (Thin (NeverNull 1) r a.type) (made scope.world to Shared e) it
          (below, h.below) z.1
          (λ s q. y.value (p s).states (passed_second p u.value s q))
      by (inl y) =
          let shape : e.shape ≡ shape_of a.type = y.shape (object_some a.type it) in
          denotes_value n d g scope f b low v (λ s. then_passed (p s) u.value) (Thin (NeverNull 1) r a.type) (ThinShape (NeverNull 1) Shared e.shape) _ it
          (below, h.below) z.1
          (ap (ThinShape (NeverNull 1) Shared) shape)
          (λ s q. gives_new s (p s).states (u.value (p s).states).states a.type r to e agrees live below shape (aims s (passed_first p u.value s q))
          (y.value is (p s).states (passed_second p u.value s q)))

  -- the region of a handle
  pub denotes_aims : (a : Value) (u : Use) (e : Sense) (r : NameOf) → Denotes n d g scope f b low a u e → a.type ≡ Handle r → (s : States)
      → (u.look s).faults ≡ [] → Aims s (u.look s).states r (handle_maker e)
  denotes_aims a u e r h is s z = by h.sound
    where
      by : Sound n d g scope f b low a u h.own e ⊎ Refuses n d g scope f b low u → Aims s (u.look s).states r (handle_maker e)
      by (inr y) = absurd (y.look s z)
      by (inl y) = aims_by_handle s (u.look s).states r e (subst (λ (t : StaticType). Shows n d g scope f b low s (u.look s).states t e.look) is (y.look s z))

  -- the handle of the heap
  pub denotes_heap : (v : Value) → Valued v (Handle TheHeap) → Denotes n d g scope f b low v (value_use nothing)
      (value_sense HandleShape (give (HandleOf 0 ∷ [])))
  denotes_heap v h = denotes_value n d g scope f b low v nothing (Handle TheHeap) HandleShape (give (HandleOf 0 ∷ [])) tt tt h refl (λ s z k w m i x. record {
    by = λ next q. q (HandleOf 0 ∷ []) m (record {
      ghost = w;
      inv = i;
      grows = grows_refl k b w m;
      holds = ((record { birth = 0; is = refl; region = x.names.heap_is }, tt), x.stands);
    });
  })
