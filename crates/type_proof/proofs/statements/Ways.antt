-- How statements leave the locals that can't be copied: the ways of an `if` meet, and a loop begins in states that each turn keeps.
use Rattle.std.proofs.Common.{◌≡◌, ℕ, Bool, true, false, Option, Some, None, [], ◌++◌, refl, sym, ◌∙◌, ap, subst}
use Rattle.std.specs.Prelude.{length}
use Rattle.source_meaning.specs.Memory.{Region, Memory}
use Rattle.source_meaning.specs.Steps.{Scope, Flow, Falls, Breaks, Continues, Returns, Step, Act, ◌>>=◌, give, choose}
use Rattle.source_meaning.specs.Statements.{after_turn, falls_to}
use Rattle.source_typing.specs.Left as rules
use Rattle.source_typing.specs.Left.{Left, after_passed, either, joined, followed, in_sequence, turn_of, back_of, loop_from}
use Rattle.source_typing.specs.Scope.{Env}
use Rattle.source_typing.specs.States.{States, Passed, meet_all, meet_ways, loop_head}
use Rattle.source_typing.specs.Statements.{in_a_loop}
use Rattle.flow_summaries.specs.Effects.{Effects, met_ways, states_after, then_way}
use Rattle.flow_summaries.specs.Exits.{Exits}
use Rattle.flow_summaries.specs.Laws.{DoesAs, LeavesAs, way_after}
use Rattle.flow_summaries.specs.Passages.{Passage}
use Rattle.flow_summaries.proofs.Effects.{way_then, ways_met}
use Rattle.type_proof.specs.Flat.{Tables}
use Rattle.type_proof.proofs.invariant.Invariant.{RunType, Ghost, Inv, Grows}
use Rattle.type_proof.proofs.invariant.Growth.{grows_trans}
use Rattle.type_proof.proofs.invariant.Runs.{Runs, Safe}
use Rattle.type_proof.proofs.invariant.After.{After}
use Rattle.type_proof.proofs.invariant.Names.{NameOf}
use Rattle.type_proof.proofs.invariant.Standing.{Standing, AreKinds, all_met_first, all_met_second, are_kinds, kinds_after}
use Rattle.type_proof.proofs.invariant.Scenes.{Scene, scene_later}
use Rattle.type_proof.proofs.invariant.Heads.{head_kept, head_stands}
use Rattle.type_proof.proofs.invariant.Sound.{none_first, none_second}
use Rattle.type_proof.proofs.expressions.Operands.{TellsBy}
use Rattle.type_proof.proofs.statements.Looped.{scene_loop}
use Rattle.type_proof.proofs.statements.Flows.{WayStands, WaysStand, Leaves, Head, Turns}

-- ---- a loop's head

-- the way back of a turn, by its condition and body
pub back_told : (n : ℕ) (condition : States → Passed) (body : States → Left) (p : Passage) (v : Exits) → DoesAs n condition p → LeavesAs n body v → (s : States)
    → back_of (turn_of condition body s) ≡ way_after n (met_ways (then_way p.effects v.falls) (then_way p.effects v.continues)) s
back_told n condition body p v c l s =
    let fall : (body (condition s).states).falls ≡ way_after n (then_way p.effects v.falls) s =
    l.falls (condition s).states ∙ (ap (λ (t : States). way_after n v.falls t) (c.states s) ∙ way_then n p.effects v.falls s) in
    let goes_on : (body (condition s).states).continues ≡ way_after n (then_way p.effects v.continues) s =
    l.continues (condition s).states ∙ (ap (λ (t : States). way_after n v.continues t) (c.states s) ∙ way_then n p.effects v.continues s) in
    ap (λ (q : Option States). meet_ways q (body (condition s).states).continues) fall
    ∙ (ap (λ (q : Option States). meet_ways (way_after n (then_way p.effects v.falls) s) q) goes_on
    ∙ ways_met n (then_way p.effects v.falls) (then_way p.effects v.continues) s)

-- ---- ways

module _ (n : ℕ) (d : Tables) (gives : RunType) (g : Env) (scope : Scope) (f : NameOf → Region) (b : ℕ) where
  -- the states of a way are of the locals' kinds
  abbrev pub WayKinds : Option States → Type 0
  WayKinds o = (t : States) → o ≡ Some t → AreKinds g.tables d f g.locals t

  pub record WaysKinds (l : Left) : Type 0 where
    pub falls : WayKinds l.falls
    pub breaks : WayKinds l.breaks
    pub continues : WayKinds l.continues

  way_kinds : (w : Option Effects) (o : Option States) (s : States) → o ≡ way_after (length g.locals) w s → AreKinds g.tables d f g.locals s → WayKinds o
  way_kinds None o s e h = λ t q. absurd (let z : None ≡ Some t = sym e ∙ q in cc)
  way_kinds (Some x) o s e h = λ t q. let z : states_after (length g.locals) x s ≡ t =
      (let y : Some (states_after (length g.locals) x s) ≡ Some t = sym e ∙ q in cc) in
      subst (λ (u : States). AreKinds g.tables d f g.locals u) z (kinds_after g.tables d f (length g.locals) x g.locals s h)

  pub kinds_left : (p : States → Left) (v : Exits) → LeavesAs (length g.locals) p v → (s : States) → AreKinds g.tables d f g.locals s → WaysKinds (p s)
  kinds_left p v l s h = record {
    falls = way_kinds v.falls (p s).falls s (l.falls s) h;
    breaks = way_kinds v.breaks (p s).breaks s (l.breaks s) h;
    continues = way_kinds v.continues (p s).continues s (l.continues s) h;
  }

  pub way_first : (o q : Option States) (w : Ghost) (m : Memory) → WayKinds q → WayStands d g scope f o w m → WayStands d g scope f (meet_ways o q) w m
  way_first None q w m n2 h = absurd (let z : None ≡ Some h.0 = h.1 in cc)
  way_first (Some s) None w m n2 h = h
  way_first (Some s) (Some t) w m n2 h =
      let z : s ≡ h.0 = (let y : Some s ≡ Some h.0 = h.1 in cc) in (
        meet_all s t,
        refl,
        all_met_first g.tables d f g.locals scope.locals s t w m (n2 t refl)
            (subst (λ (u : States). Standing d g scope f u w m) (sym z) h.2),
      )

  pub way_second : (o q : Option States) (w : Ghost) (m : Memory) → WayKinds o → WayStands d g scope f q w m → WayStands d g scope f (meet_ways o q) w m
  way_second None q w m n1 h = h
  way_second (Some s) None w m n1 h = absurd (let z : None ≡ Some h.0 = h.1 in cc)
  way_second (Some s) (Some t) w m n1 h =
      let z : t ≡ h.0 = (let y : Some t ≡ Some h.0 = h.1 in cc) in (
        meet_all s t,
        refl,
        all_met_second g.tables d f g.locals scope.locals s t w m (n1 s refl)
            (subst (λ (u : States). Standing d g scope f u w m) (sym z) h.2),
      )

  -- where two phrases are joined, all ways but the ends meet
  joined_first : (l r : Left) (o : Option States) (flow : Flow) (w : Ghost) (m : Memory) → WaysKinds r → (flow ≡ Falls → WayStands d g scope f o w m)
      → WaysStand d gives g scope f l flow w m → WaysStand d gives g scope f (joined l r o) flow w m
  joined_first l r o Falls w m k ends h = ends refl
  joined_first l r o Breaks w m k ends h = (way_first l.breaks r.breaks w m k.breaks h.0, h.1)
  joined_first l r o Continues w m k ends h = (way_first l.continues r.continues w m k.continues h.0, h.1)
  joined_first l r o (Returns vs) w m k ends h = h

  joined_second : (l r : Left) (o : Option States) (flow : Flow) (w : Ghost) (m : Memory) → WaysKinds l
      → (WayStands d g scope f r.falls w m → WayStands d g scope f o w m)
      → WaysStand d gives g scope f r flow w m → WaysStand d gives g scope f (joined l r o) flow w m
  joined_second l r o Falls w m k ends h = ends h
  joined_second l r o Breaks w m k ends h = (way_second l.breaks r.breaks w m k.breaks h.0, h.1)
  joined_second l r o Continues w m k ends h = (way_second l.continues r.continues w m k.continues h.0, h.1)
  joined_second l r o (Returns vs) w m k ends h = h

  pub either_first : (l r : Left) (flow : Flow) (w : Ghost) (m : Memory) → WaysKinds r → WaysStand d gives g scope f l flow w m
      → WaysStand d gives g scope f (either l r) flow w m
  either_first l r Falls w m n2 h = way_first l.falls r.falls w m n2.falls h
  either_first l r Breaks w m n2 h = (way_first l.breaks r.breaks w m n2.breaks h.0, h.1)
  either_first l r Continues w m n2 h = (way_first l.continues r.continues w m n2.continues h.0, h.1)
  either_first l r (Returns vs) w m n2 h = h

  pub either_second : (l r : Left) (flow : Flow) (w : Ghost) (m : Memory) → WaysKinds l → WaysStand d gives g scope f r flow w m
      → WaysStand d gives g scope f (either l r) flow w m
  either_second l r flow w m n1 h = joined_second l r (meet_ways l.falls r.falls) flow w m n1 (λ z. way_second l.falls r.falls w m n1.falls z) h

  -- faults are no part of it
  pub as_after : (l : Left) (fs : _) (flow : Flow) (w : Ghost) (m : Memory) → WaysStand d gives g scope f l flow w m
      → WaysStand d gives g scope f (record l { faults = fs ++ l.faults }) flow w m
  as_after l fs Falls w m h = h
  as_after l fs Breaks w m h = h
  as_after l fs Continues w m h = h
  as_after l fs (Returns vs) w m h = h

  -- one of two statements, by a test
  pub leaves_either : (c : States → Passed) (l r : States → Left) (u v : Exits) (act : Act Bool) (yes_act no_act : Act Flow) → TellsBy n d g scope f b b c act
      → LeavesAs (length g.locals) l u → LeavesAs (length g.locals) r v → Leaves n d gives g scope f b l yes_act → Leaves n d gives g scope f b r no_act
      → Leaves n d gives g scope f b (λ s. after_passed (c s) (λ t. either (l t) (r t))) (act >>= λ t. choose t yes_act no_act)
  leaves_either c l r u v act yes_act no_act tells lu rv hy hn s e k w m i x = record {
    by = λ next q. (tells s (none_first (c s).faults ((l s1).faults ++ (r s1).faults) e) k w m i x).by (λ t. choose t yes_act no_act next)
        (λ t m1 y. by t m1 y next q);
  }
    where
      s1 : States
      s1 = (c s).states

      rest : (l s1).faults ++ (r s1).faults ≡ []
      rest = none_second (c s).faults ((l s1).faults ++ (r s1).faults) e

      both : Left
      both = either (l s1) (r s1)

      by : (t : Bool) (m1 : Memory) → After d k b w m (λ w' m'. Standing d g scope f s1 w' m') m1 → (next : Flow → Memory → Step)
          → ((flow : Flow) (m' : Memory) → After d k b w m (λ w' m'. WaysStand d gives g scope f (after_passed (c s) (λ t2. either (l t2) (r t2))) flow w' m')
          m' → Safe n (next flow m'))
          → Safe n (choose t yes_act no_act next m1)
      by true m1 y next q = (hy s1 (none_first (l s1).faults (r s1).faults rest) k y.ghost m1 y.inv
          (scene_later d g scope f b b s s1 k w m y.ghost m1 y.inv y.grows y.holds x)).by next
          (λ flow m2 z. q flow m2 (record {
            ghost = z.ghost;
            inv = z.inv;
            grows = grows_trans y.grows z.grows;
            holds = as_after both (c s).faults flow z.ghost m2 (either_first (l s1) (r s1) flow z.ghost m2
                (kinds_left r v rv s1 (are_kinds g.tables d f g.locals scope.locals s1 y.ghost m1 y.holds)) z.holds);
          }))
      by false m1 y next q = (hn s1 (none_second (l s1).faults (r s1).faults rest) k y.ghost m1 y.inv
          (scene_later d g scope f b b s s1 k w m y.ghost m1 y.inv y.grows y.holds x)).by next
          (λ flow m2 z. q flow m2 (record {
            ghost = z.ghost;
            inv = z.inv;
            grows = grows_trans y.grows z.grows;
            holds = as_after both (c s).faults flow z.ghost m2 (either_second (l s1) (r s1) flow z.ghost m2
                (kinds_left l u lu s1 (are_kinds g.tables d f g.locals scope.locals s1 y.ghost m1 y.holds)) z.holds);
          }))

  -- ---- loops

  -- from its head
  pub head_leaves : (c : States → Passed) (l : States → Left) (v : Exits) (act : Act Bool) (turn : Act Flow) → TellsBy n d g scope f b b c act
      → LeavesAs (length g.locals) l v
      → Turns n d gives g scope f b c l turn
      → (h : States) → Head d g f c l h → (k : ℕ) (w : Ghost) (m : Memory) → Inv d w m → Scene d g scope f b b h k w m
      → Runs n (act >>= λ t. choose t turn (give Falls)) m (λ flow. After d k b w m (λ w' m'. WaysStand d gives g scope f (loop_from c l h) flow w' m'))
  head_leaves c l v act turn tells lv turns h head k w m i x = record {
    by = λ next q. (tells h (none_first (c h).faults (l (c h).states).faults head.faultless) k w m i x).by (λ t. choose t turn (give Falls) next)
        (λ t m1 y. by t m1 y next q);
  }
    where
      by : (t : Bool) (m1 : Memory) → After d k b w m (λ w' m'. Standing d g scope f (c h).states w' m') m1 → (next : Flow → Memory → Step)
          → ((flow : Flow) (m' : Memory) → After d k b w m (λ w' m'. WaysStand d gives g scope f (loop_from c l h) flow w' m') m' → Safe n (next flow m'))
          → Safe n (choose t turn (give Falls) next m1)
      by true m1 y next q = (turns h head k y.ghost m1 y.inv (scene_later d g scope f b b h (c h).states k w m y.ghost m1 y.inv y.grows y.holds x)).by next
          (λ flow m2 z. q flow m2 (record { ghost = z.ghost; inv = z.inv; grows = grows_trans y.grows z.grows; holds = z.holds }))
      by false m1 y next q = q Falls m1 (record {
        ghost = y.ghost;
        inv = y.inv;
        grows = y.grows;
        holds = way_first (Some (c h).states) (l (c h).states).breaks y.ghost m1
            (kinds_left l v lv (c h).states (are_kinds g.tables d f g.locals scope.locals (c h).states y.ghost m1 y.holds)).breaks
            ((c h).states, refl, y.holds);
      })

  -- a turn's body, and then the loop again
  pub turn_goes : (c : States → Passed) (l : States → Left) (v : Exits) (body again : Act Flow) → Leaves n d gives (in_a_loop g) scope f b l body
      → LeavesAs (length g.locals) l v
      → (h : States) → Head d g f c l h
      → ((k : ℕ) (w : Ghost) (m : Memory) → Inv d w m → Scene d g scope f b b h k w m
      → Runs n again m (λ flow. After d k b w m (λ w' m'. WaysStand d gives g scope f (loop_from c l h) flow w' m')))
      → (k : ℕ) (w : Ghost) (m : Memory) → Inv d w m → Scene d g scope f b b (c h).states k w m
      → Runs n (body >>= λ flow. after_turn flow again) m (λ flow. After d k b w m (λ w' m'. WaysStand d gives g scope f (loop_from c l h) flow w' m'))
  turn_goes c l v body again leaves lv h head goes k w m i x = record {
    by = λ next q. (leaves (c h).states (none_second (c h).faults (l (c h).states).faults head.faultless) k w m i
        (scene_loop d g scope f b (c h).states k w m x)).by (λ flow. after_turn flow again next)
        (λ flow m1 y. by flow m1 y.ghost y.inv y.grows y.holds next q);
  }
    where
      kinds : WaysKinds (l (c h).states)
      kinds = kinds_left l v lv (c h).states (are_kinds g.tables d f g.locals scope.locals (c h).states w m x.stands)

      at_head : (w1 : Ghost) (m1 : Memory) → WayStands d g scope f (back_of (turn_of c l h)) w1 m1 → Standing d g scope f h w1 m1
      at_head w1 m1 y = subst (λ (t : States). Standing d g scope f t w1 m1) (head.keeps y.0 y.1)
          (all_met_second g.tables d f g.locals scope.locals h y.0 w1 m1 head.kinds y.2)

      repeats : (m1 : Memory) (w1 : Ghost) → Inv d w1 m1 → Grows k b w m w1 m1 → Standing d g scope f h w1 m1 → (next : Flow → Memory → Step)
          → ((flow : Flow) (m' : Memory) → After d k b w m (λ w' m'. WaysStand d gives g scope f (loop_from c l h) flow w' m') m' → Safe n (next flow m'))
          → Safe n (again next m1)
      repeats m1 w1 i1 g1 y next q = (goes k w1 m1 i1 (scene_later d g scope f b b (c h).states h k w m w1 m1 i1 g1 y x)).by next
          (λ flow m2 z. q flow m2 (record { ghost = z.ghost; inv = z.inv; grows = grows_trans g1 z.grows; holds = z.holds }))

      by : (flow : Flow) (m1 : Memory) (w1 : Ghost) → Inv d w1 m1 → Grows k b w m w1 m1 → WaysStand d gives (in_a_loop g) scope f (l (c h).states) flow w1 m1
          → (next : Flow → Memory → Step)
          → ((flow2 : Flow) (m' : Memory) → After d k b w m (λ w' m'. WaysStand d gives g scope f (loop_from c l h) flow2 w' m') m' → Safe n (next flow2 m'))
          → Safe n (after_turn flow again next m1)
      by Falls m1 w1 i1 g1 y next q = repeats m1 w1 i1 g1 (at_head w1 m1 (way_first (l (c h).states).falls (l (c h).states).continues w1 m1 kinds.continues y))
          next q
      by Continues m1 w1 i1 g1 y next q = repeats m1 w1 i1 g1
          (at_head w1 m1 (way_second (l (c h).states).falls (l (c h).states).continues w1 m1 kinds.falls y.0)) next q
      by Breaks m1 w1 i1 g1 y next q = q Falls m1 (record {
        ghost = w1;
        inv = i1;
        grows = g1;
        holds = way_second (Some (c h).states) (l (c h).states).breaks w1 m1
            (λ t e. let z : (c h).states ≡ t = (let a : Some (c h).states ≡ Some t = e in cc) in
            subst (λ (u : States). AreKinds g.tables d f g.locals u) z (are_kinds g.tables d f g.locals scope.locals (c h).states w m x.stands)) y.0;
      })
      by (Returns vs) m1 w1 i1 g1 y next q = q (Returns vs) m1 (record { ghost = w1; inv = i1; grows = g1; holds = y })

  -- the entry implies the head, and each turn keeps it
  pub head_begins : (c : States → Passed) (l : States → Left) (p : Passage) (v : Exits) → DoesAs (length g.locals) c p → LeavesAs (length g.locals) l v
      → (s : States) (w : Ghost)
      (m : Memory) → Standing d g scope f s w m → (rules.loop c l s).faults ≡ []
      → Head d g f c l (loop_head s (λ h. back_of (turn_of c l h))) × Standing d g scope f (loop_head s (λ h. back_of (turn_of c l h))) w m
  head_begins c l p v cp lv s w m st e = (
    record {
      faultless = e;
      keeps = head_kept (length g.locals) turn back told s;
      kinds = are_kinds g.tables d f g.locals scope.locals (loop_head s (λ h. back_of (turn_of c l h))) w m stands;
    },
    stands,
  )
    where
      turn : States → Option States
      turn h = back_of (turn_of c l h)

      back : Option Effects
      back = met_ways (then_way p.effects v.falls) (then_way p.effects v.continues)

      told : (h : States) → turn h ≡ way_after (length g.locals) back h
      told = back_told (length g.locals) c l p v cp lv

      stands : Standing d g scope f (loop_head s turn) w m
      stands = head_stands d g scope f turn back told s w m st

  -- ---- statements one after another

  -- what follows is left only from where the first one ends
  pub leaves_then : (p q : States → Left) (u v : Exits) (act rest : Act Flow) → LeavesAs (length g.locals) p u → LeavesAs (length g.locals) q v
      → Leaves n d gives g scope f b p act → ((s t : States) → (p s).falls ≡ Some t → Leaves n d gives g scope f b q rest)
      → Leaves n d gives g scope f b (λ s. in_sequence (p s) q) (act >>= λ flow. falls_to flow rest)
  leaves_then p q u v act rest pu qv hp hq s e k w m i x = record {
    by = λ next r. (hp s (first (p s).falls e) k w m i x).by (λ flow. falls_to flow rest next) (λ flow m1 y. by (p s).falls refl flow m1 y next r);
  }
    where
      first : (o : Option States) → (followed o (p s) q).faults ≡ [] → (p s).faults ≡ []
      first None z = z
      first (Some t) z = none_first (p s).faults (q t).faults z

      second : (t : States) → (p s).falls ≡ Some t → (q t).faults ≡ []
      second t z = none_second (p s).faults (q t).faults (subst (λ (o : Option States). (followed o (p s) q).faults ≡ []) z e)

      kinds : WaysKinds (p s)
      kinds = kinds_left p u pu s (are_kinds g.tables d f g.locals scope.locals s w m x.stands)

      Post : Option States → Flow → Memory → Type 0
      Post o flow = After d k b w m (λ w' m'. WaysStand d gives g scope f (followed o (p s) q) flow w' m')

      other : (o : Option States) → (p s).falls ≡ o → (flow : Flow) → (flow ≡ Falls → ⊥)
          → (m1 : Memory) (y : After d k b w m (λ w' m'. WaysStand d gives g scope f (p s) flow w' m') m1)
          → Post o flow m1
      other None z flow elsewhere m1 y = record { ghost = y.ghost; inv = y.inv; grows = y.grows; holds = y.holds }
      other (Some t) z flow elsewhere m1 y = record {
        ghost = y.ghost;
        inv = y.inv;
        grows = y.grows;
        holds = joined_first (p s) (q t) (q t).falls flow y.ghost m1 (kinds_left q v qv t (kinds.falls t z)) (λ a. absurd (elsewhere a)) y.holds;
      }

      by : (o : Option States) → (p s).falls ≡ o → (flow : Flow) (m1 : Memory) → After d k b w m (λ w' m'. WaysStand d gives g scope f (p s) flow w' m') m1
          → (next : Flow → Memory → Step)
          → ((c : Flow) (m' : Memory) → Post o c m' → Safe n (next c m')) → Safe n (falls_to flow rest next m1)
      by None z Falls m1 y next r = absurd (let a : (p s).falls ≡ Some y.holds.0 = y.holds.1 in let c : None ≡ Some y.holds.0 = sym z ∙ a in cc)
      by (Some t) z Falls m1 y next r =
          let same : y.holds.0 ≡ t = (let a : Some y.holds.0 ≡ Some t = sym y.holds.1 ∙ z in cc) in
          let there : Standing d g scope f t y.ghost m1 = subst (λ (a : States). Standing d g scope f a y.ghost m1) same y.holds.2 in
          (hq s t z t (second t z) k y.ghost m1 y.inv (scene_later d g scope f b b s t k w m y.ghost m1 y.inv y.grows there x)).by next
          (λ c m2 a. r c m2 (record {
            ghost = a.ghost;
            inv = a.inv;
            grows = grows_trans y.grows a.grows;
            holds = joined_second (p s) (q t) (q t).falls c a.ghost m2 kinds (λ z. z) a.holds;
          }))
      by o z Breaks m1 y next r = r Breaks m1 (other o z Breaks (λ a. cc) m1 y)
      by o z Continues m1 y next r = r Continues m1 (other o z Continues (λ a. cc) m1 y)
      by o z (Returns vs) m1 y next r = r (Returns vs) m1 (other o z (Returns vs) (λ a. cc) m1 y)
