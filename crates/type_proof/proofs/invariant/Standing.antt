-- How the cells of locals that can't be copied stand, by the states that the rules of flow have of them.
use Rattle.std.proofs.Common.{◌≡◌, ℕ, zero, suc, ◌<◌, ◌≤◌, Bool, true, false, Some, List, [], ◌∷◌, refl, sym, ◌∙◌, subst, arith}
use Rattle.std.specs.Prelude.{bytes_eq, not, Option, None, if◌then◌else◌}
use Rattle.source_meaning.specs.Shapes.{Shape}
use Rattle.source_meaning.specs.Memory.{Region, Frame, Spot, Memory}
use Rattle.source_meaning.specs.Steps.{Entity, Variable, Binding, Scope}
use Rattle.source_meaning.specs.Places.{bound_to}
use Rattle.source_typing.specs.States.{State, Plain, Held, Gone, Lent, States, state_of, with_state, meet, meet_all}
use Rattle.source_typing.specs.Scope.{Env, Local, find_local}
use Rattle.source_typing.specs.Tables as typing
use Rattle.source_typing.specs.Tables.{What, Stored, Arrayed, Counter, Unknown, is_copyable}
use Rattle.flow_summaries.specs.Effects.{Effect, Effects, Keeps, Holds, Loses, MayLose, becomes, states_after}
use Rattle.type_proof.specs.Flat.{Tables, flat}
use Rattle.type_proof.proofs.invariant.Invariant.{RunType, Kept, Private, Ghost, Grows}
use Rattle.type_proof.proofs.invariant.Names.{NameOf}
use Rattle.source_typing.specs.Named.{TypeBelow}
use Rattle.type_proof.proofs.invariant.Alikes.{Alike, renamed_alike, cells_type}
use Rattle.type_proof.proofs.invariant.Rights.{Apart}
use Rattle.type_proof.proofs.invariant.LocalCells.{CellsStand, met_first, met_second, Same, cells_same}

-- ---- all locals in scope

-- the locals' names are those that are bound
abbrev pub Alongside : List Local → List Binding → Type 0
Alongside [] [] = Unit {0}
Alongside (l ∷ ls) (y ∷ bs) = (y.name ≡ l.name) × Alongside ls bs
Alongside [] (y ∷ bs) = ⊥
Alongside (l ∷ ls) [] = ⊥

abbrev pub EntityApart : Spot → Entity → Type 0
EntityApart s (Variable sh at) = Apart s at

abbrev pub ApartFrom : Spot → List Binding → Type 0
ApartFrom s [] = Unit {0}
ApartFrom s (y ∷ bs) = EntityApart s y.entity × ApartFrom s bs

-- a variable lies in a block of the function, apart from the earlier ones
pub record Room (b : ℕ) (at : Spot) (bs : List Binding) : Type 0 where
  pub frame : ℕ
  pub region : at.region ≡ Frame frame
  pub own : b ≤ frame
  pub apart : ApartFrom at bs

abbrev pub InRoom : ℕ → Entity → List Binding → Type 0
InRoom b (Variable sh at) bs = Room b at bs

abbrev pub Rooms : ℕ → List Binding → Type 0
Rooms b [] = Unit {0}
Rooms b (y ∷ bs) = InRoom b y.entity bs × Rooms b bs

module _ (tables : typing.Tables) (d : Tables) (f : NameOf → Region) where
  -- a local that can't be copied stands as its state says; of others nothing is said
  abbrev pub LocalStands : What → Entity → State → Ghost → Memory → Type 0
  LocalStands (Stored t r) (Variable sh at) a w m = is_copyable tables t ≡ false → CellsStand a w m at (cells_type d f t)
  LocalStands (Arrayed t r) e a w m = Unit {0}
  LocalStands Counter e a w m = Unit {0}
  LocalStands (Unknown sound) e a w m = Unit {0}

  abbrev pub AllStand : List Local → List Binding → States → Ghost → Memory → Type 0
  AllStand [] [] [] w m = Unit {0}
  AllStand (l ∷ ls) (y ∷ bs) (a ∷ s) w m = LocalStands l.what y.entity a w m × AllStand ls bs s w m
  AllStand _ _ _ w m = ⊥

  -- the state of a local that can't be copied isn't that of one that can
  abbrev pub IsKind : What → State → Type 0
  IsKind (Stored t r) a = is_copyable tables t ≡ false → a ≡ Plain → ⊥
  IsKind (Arrayed t r) a = Unit {0}
  IsKind Counter a = Unit {0}
  IsKind (Unknown sound) a = Unit {0}

  abbrev pub AreKinds : List Local → States → Type 0
  AreKinds [] [] = Unit {0}
  AreKinds (l ∷ ls) (a ∷ s) = IsKind l.what a × AreKinds ls s
  AreKinds [] (a ∷ s) = ⊥
  AreKinds (l ∷ ls) [] = ⊥

  -- ---- one is found by its name

  pub found_stands : (ls : List Local) (bs : List Binding) (s : States) (x : List ℕ) (l : Local) (e : Entity) (w : Ghost) (m : Memory) → Alongside ls bs
      → find_local ls x ≡ Some l → bound_to bs x ≡ Some e → AllStand ls bs s w m → LocalStands l.what e (state_of ls x s) w m
  found_stands [] [] [] x l e w m al fl be h = absurd cc
  found_stands (y ∷ ls) (z ∷ bs) (a ∷ s) x l e w m al fl be h =
      by (bytes_eq y.name x) (λ p q. found_stands ls bs s x l e w m al.1 p q h.1) fl
      (subst (λ (n : List ℕ). (if bytes_eq n x then Some z.entity else bound_to bs x) ≡ Some e) al.0 be)
    where
      by : (c : Bool) → (find_local ls x ≡ Some l → bound_to bs x ≡ Some e → LocalStands l.what e (state_of ls x s) w m)
          → (if c then Some y else find_local ls x) ≡ Some l → (if c then Some z.entity else bound_to bs x) ≡ Some e
          → LocalStands l.what e (if c then a else state_of ls x s) w m
      by true others p q =
          let same_local : y ≡ l = cc in
          let same_entity : z.entity ≡ e = cc in
          subst (λ (k : Local). LocalStands k.what e a w m) same_local (subst (λ (k : Entity). LocalStands y.what k a w m) same_entity h.0)
      by false others p q = others p q
  found_stands [] [] (a ∷ s) x l e w m al fl be h = absurd h
  found_stands [] (z ∷ bs) s x l e w m al fl be h = absurd al
  found_stands (y ∷ ls) [] s x l e w m al fl be h = absurd al
  found_stands (y ∷ ls) (z ∷ bs) [] x l e w m al fl be h = absurd h

-- ---- one changes, and the others are as they were

-- all but what lies in one object
pub record Beside (at : Spot) (w : Ghost) (m : Memory) (w' : Ghost) (m' : Memory) : Type 0 where
  pub types : (y : Spot) (k : Kept) → w.types y ≡ Some k → w'.types y ≡ Some k
  pub cells : (y : Spot) (t : RunType) → Apart y at → w.types y ≡ Some (Private t) → m'.cells y ≡ m.cells y

pub same_beside : (at s : Spot) (w : Ghost) (m : Memory) (w' : Ghost) (m' : Memory) → Apart s at → Beside at w m w' m' → Same w m w' m' s
same_beside at s w m w' m' p h =
    record { types = h.types; cells = λ y t e o q. h.cells y t (λ u v. p (sym e ∙ u) (sym o ∙ v)) q }

module _ (tables : typing.Tables) (d : Tables) (f : NameOf → Region) (w : Ghost) (m : Memory) (w' : Ghost) (m' : Memory) where
  abbrev pub SameAll : List Binding → Type 0
  SameAll [] = Unit {0}
  SameAll (y ∷ bs) = ((sh : Shape) (s : Spot) → y.entity ≡ Variable sh s → Same w m w' m' s) × SameAll bs

  local_same : (v : What) (e : Entity) (a : State) → ((sh : Shape) (s : Spot) → e ≡ Variable sh s → Same w m w' m' s) → LocalStands tables d f v e a w m
      → LocalStands tables d f v e a w' m'
  local_same (Stored t r) (Variable sh at) a k h = λ c. cells_same a w m w' m' at (cells_type d f t) (k sh at refl) (h c)
  local_same (Arrayed t r) e a k h = tt
  local_same Counter e a k h = tt
  local_same (Unknown sound) e a k h = tt

  -- where each is as it was
  pub all_same : (ls : List Local) (bs : List Binding) (s : States) → SameAll bs → AllStand tables d f ls bs s w m → AllStand tables d f ls bs s w' m'
  all_same [] [] [] k h = tt
  all_same (l ∷ ls) (y ∷ bs) (a ∷ s) k h = (local_same l.what y.entity a k.0 h.0, all_same ls bs s k.1 h.1)
  all_same [] [] (a ∷ s) k h = absurd h
  all_same [] (y ∷ bs) s k h = absurd h
  all_same (l ∷ ls) [] s k h = absurd h
  all_same (l ∷ ls) (y ∷ bs) [] k h = absurd h

  all_beside : (at : Spot) (bs : List Binding) → ApartFrom at bs → Beside at w m w' m' → SameAll bs
  all_beside at [] p k = tt
  all_beside at (y ∷ bs) p k = (entity_beside y.entity p.0, all_beside at bs p.1 k)
    where
      entity_beside : (e : Entity) → EntityApart at e → (sh : Shape) (s : Spot) → e ≡ Variable sh s → Same w m w' m' s
      entity_beside (Variable sh s) q = λ sh2 s2 u. let z : s ≡ s2 = cc in
          subst (λ (o : Spot). Same w m w' m' o) z (same_beside at s w m w' m' (λ g o. q (sym g) (sym o)) k)

  -- a variable that is found further on lies apart from this one
  apart_found : (s : Spot) (bs : List Binding) (x : List ℕ) (sh : Shape) (at : Spot) → ApartFrom s bs → bound_to bs x ≡ Some (Variable sh at) → Apart s at
  apart_found s [] x sh at p e = absurd cc
  apart_found s (y ∷ bs) x sh at p e = by (bytes_eq y.name x) (λ q. apart_found s bs x sh at p.1 q) e
    where
      by : (c : Bool) → (bound_to bs x ≡ Some (Variable sh at) → Apart s at) → (if c then Some y.entity else bound_to bs x) ≡ Some (Variable sh at) → Apart s at
      by true others q = let z : y.entity ≡ Variable sh at = cc in subst (λ (k : Entity). EntityApart s k) z p.0
      by false others q = others q

  before_found : (b : ℕ) (e : Entity) (bs : List Binding) (x : List ℕ) (sh : Shape) (at : Spot) → InRoom b e bs → bound_to bs x ≡ Some (Variable sh at)
      → Beside at w m w' m' → (sh2 : Shape) (s : Spot) → e ≡ Variable sh2 s → Same w m w' m' s
  before_found b (Variable sh1 s1) bs x sh at p e k = λ sh2 s2 u. let z : s1 ≡ s2 = cc in
      subst (λ (o : Spot). Same w m w' m' o) z (same_beside at s1 w m w' m' (apart_found s1 bs x sh at p.apart e) k)

  -- a local stands in another state, and the others as they did
  pub updated : (b : ℕ) (ls : List Local) (bs : List Binding) (s : States) (x : List ℕ) (l : Local) (sh : Shape) (at : Spot) (a : State) → Alongside ls bs
      → Rooms b bs → find_local ls x ≡ Some l → bound_to bs x ≡ Some (Variable sh at) → Beside at w m w' m'
      → LocalStands tables d f l.what (Variable sh at) a w' m' → AllStand tables d f ls bs s w m → AllStand tables d f ls bs (with_state ls x a s) w' m'
  updated b [] [] [] x l sh at a al rooms fl be k here h = absurd cc
  updated b (y ∷ ls) (z ∷ bs) (c ∷ s) x l sh at a al rooms fl be k here h =
      by (bytes_eq y.name x) (λ p q. updated b ls bs s x l sh at a al.1 rooms.1 p q k here h.1) fl
      (subst (λ (n : List ℕ). (if bytes_eq n x then Some z.entity else bound_to bs x) ≡ Some (Variable sh at)) al.0 be)
    where
      by : (t : Bool) → (find_local ls x ≡ Some l → bound_to bs x ≡ Some (Variable sh at) → AllStand tables d f ls bs (with_state ls x a s) w' m')
          → (if t then Some y else find_local ls x) ≡ Some l → (if t then Some z.entity else bound_to bs x) ≡ Some (Variable sh at)
          → AllStand tables d f (y ∷ ls) (z ∷ bs) (if t then a ∷ s else c ∷ with_state ls x a s) w' m'
      by true others p q =
          let same_local : y ≡ l = cc in
          let same_entity : z.entity ≡ Variable sh at = cc in
          let room : Room b at bs = subst (λ (e : Entity). InRoom b e bs) same_entity rooms.0 in (
            subst (λ (e : Entity). LocalStands tables d f y.what e a w' m') (sym same_entity)
                (subst (λ (o : Local). LocalStands tables d f o.what (Variable sh at) a w' m') (sym same_local) here),
            all_same ls bs s (all_beside at bs room.apart k) h.1,
          )
      by false others p q = (local_same y.what z.entity c (before_found b z.entity bs x sh at rooms.0 q k) h.0, others p q)
  updated b [] [] (c ∷ s) x l sh at a al rooms fl be k here h = absurd h
  updated b [] (z ∷ bs) s x l sh at a al rooms fl be k here h = absurd al
  updated b (y ∷ ls) [] s x l sh at a al rooms fl be k here h = absurd al
  updated b (y ∷ ls) (z ∷ bs) [] x l sh at a al rooms fl be k here h = absurd h

-- ---- what another function, or what leaves private cells alone, keeps

-- the blocks of a function are fewer than so many activations
abbrev pub EntityWithin : ℕ → Entity → Type 0
EntityWithin j (Variable sh at) = (i : ℕ) → at.region ≡ Frame i → i < j

abbrev pub AllWithin : ℕ → List Binding → Type 0
AllWithin j [] = Unit {0}
AllWithin j (y ∷ bs) = EntityWithin j y.entity × AllWithin j bs

-- more activations
entity_more : (i j : ℕ) (e : Entity) → i ≤ j → EntityWithin i e → EntityWithin j e
entity_more i j (Variable sh at) l h = λ k q. let z : k < i = h k q in omega (arith, l, z)

pub all_more : (i j : ℕ) (bs : List Binding) → i ≤ j → AllWithin i bs → AllWithin j bs
all_more i j [] l h = tt
all_more i j (y ∷ bs) l h = (entity_more i j y.entity l h.0, all_more i j bs l h.1)

module _ (tables : typing.Tables) (d : Tables) (f : NameOf → Region) where
  -- what grows above all blocks of a function changes none of its locals
  pub all_kept : (k b j : ℕ) (ls : List Local) (bs : List Binding) (s : States) (w : Ghost) (m : Memory) (w' : Ghost) (m' : Memory) → Rooms b bs
      → AllWithin j bs
      → Grows k j w m w' m' → AllStand tables d f ls bs s w m → AllStand tables d f ls bs s w' m'
  all_kept k b j ls bs s w m w' m' rooms l g h = all_same tables d f w m w' m' ls bs s (each bs rooms l) h
    where
      one : (e : Entity) (os : List Binding) → InRoom b e os → EntityWithin j e → (sh : Shape) (at : Spot) → e ≡ Variable sh at → Same w m w' m' at
      one (Variable sh at) os room within = λ sh2 at2 u. let z : at ≡ at2 = cc in subst (λ (o : Spot). Same w m w' m' o) z (record {
        types = g.types;
        cells = λ y t e o p. g.kept y t room.frame (e ∙ room.region) (within room.frame room.region) p;
      })

      each : (os : List Binding) → Rooms b os → AllWithin j os → SameAll tables d f w m w' m' os
      each [] r q = tt
      each (y ∷ os) r q = (one y.entity os r.0 q.0, each os r.1 q.1)

  -- ---- where ways meet

  first_kind : (v : What) (e : Entity) (a c : State) (w : Ghost) (m : Memory) → IsKind tables d f v c → LocalStands tables d f v e a w m
      → LocalStands tables d f v e (meet a c) w m
  first_kind (Stored t r) (Variable sh at) a c w m n h = λ q. met_first a c w m at (cells_type d f t) (n q) (h q)
  first_kind (Arrayed t r) e a c w m n h = tt
  first_kind Counter e a c w m n h = tt
  first_kind (Unknown sound) e a c w m n h = tt

  second_kind : (v : What) (e : Entity) (a c : State) (w : Ghost) (m : Memory) → IsKind tables d f v a → LocalStands tables d f v e c w m
      → LocalStands tables d f v e (meet a c) w m
  second_kind (Stored t r) (Variable sh at) a c w m n h = λ q. met_second a c w m at (cells_type d f t) (n q) (h q)
  second_kind (Arrayed t r) e a c w m n h = tt
  second_kind Counter e a c w m n h = tt
  second_kind (Unknown sound) e a c w m n h = tt

  pub all_met_first : (ls : List Local) (bs : List Binding) (s t : States) (w : Ghost) (m : Memory) → AreKinds tables d f ls t → AllStand tables d f ls bs s w m
      → AllStand tables d f ls bs (meet_all s t) w m
  all_met_first [] [] [] t w m n h = tt
  all_met_first (l ∷ ls) (y ∷ bs) (a ∷ s) (c ∷ t) w m n h = (first_kind l.what y.entity a c w m n.0 h.0, all_met_first ls bs s t w m n.1 h.1)
  all_met_first (l ∷ ls) (y ∷ bs) (a ∷ s) [] w m n h = absurd n
  all_met_first [] [] (a ∷ s) t w m n h = absurd h
  all_met_first [] (y ∷ bs) s t w m n h = absurd h
  all_met_first (l ∷ ls) [] s t w m n h = absurd h
  all_met_first (l ∷ ls) (y ∷ bs) [] t w m n h = absurd h

  pub all_met_second : (ls : List Local) (bs : List Binding) (s t : States) (w : Ghost) (m : Memory) → AreKinds tables d f ls s
      → AllStand tables d f ls bs t w m
      → AllStand tables d f ls bs (meet_all s t) w m
  all_met_second [] [] [] [] w m n h = tt
  all_met_second (l ∷ ls) (y ∷ bs) (a ∷ s) (c ∷ t) w m n h = (second_kind l.what y.entity a c w m n.0 h.0, all_met_second ls bs s t w m n.1 h.1)
  all_met_second (l ∷ ls) bs [] t w m n h = absurd n
  all_met_second [] bs (a ∷ s) t w m n h = absurd n
  all_met_second [] [] [] (c ∷ t) w m n h = absurd h
  all_met_second [] (y ∷ bs) [] t w m n h = absurd h
  all_met_second (l ∷ ls) [] (a ∷ s) t w m n h = absurd h
  all_met_second (l ∷ ls) (y ∷ bs) (a ∷ s) [] w m n h = absurd h

  -- a state of a local that stands is of its kind
  kind_is : (v : What) (e : Entity) (a : State) (w : Ghost) (m : Memory) → LocalStands tables d f v e a w m → IsKind tables d f v a
  kind_is (Stored t r) (Variable sh at) a w m h = λ q z. subst (λ (c : State). CellsStand c w m at (cells_type d f t)) z (h q)
  kind_is (Arrayed t r) e a w m h = tt
  kind_is Counter e a w m h = tt
  kind_is (Unknown sound) e a w m h = tt

  pub are_kinds : (ls : List Local) (bs : List Binding) (s : States) (w : Ghost) (m : Memory) → AllStand tables d f ls bs s w m → AreKinds tables d f ls s
  are_kinds [] [] [] w m h = tt
  are_kinds (l ∷ ls) (y ∷ bs) (a ∷ s) w m h = (kind_is l.what y.entity a w m h.0, are_kinds ls bs s w m h.1)
  are_kinds [] [] (a ∷ s) w m h = absurd h
  are_kinds [] (y ∷ bs) s w m h = absurd h
  are_kinds (l ∷ ls) [] s w m h = absurd h
  are_kinds (l ∷ ls) (y ∷ bs) [] w m h = absurd h

  -- ---- effects of phrases keep kinds

  becomes_kind : (e : Effect) (a : State) → (a ≡ Plain → ⊥) → becomes e a ≡ Plain → ⊥
  becomes_kind e Plain n z = n refl
  becomes_kind Keeps Held n z = absurd cc
  becomes_kind Holds Held n z = absurd cc
  becomes_kind Loses Held n z = absurd cc
  becomes_kind MayLose Held n z = absurd cc
  becomes_kind Keeps Gone n z = absurd cc
  becomes_kind Holds Gone n z = absurd cc
  becomes_kind Loses Gone n z = absurd cc
  becomes_kind MayLose Gone n z = absurd cc
  becomes_kind Keeps Lent n z = absurd cc
  becomes_kind Holds Lent n z = absurd cc
  becomes_kind Loses Lent n z = absurd cc
  becomes_kind MayLose Lent n z = absurd cc

  effect_kind : (v : What) (e : Effect) (a : State) → IsKind tables d f v a → IsKind tables d f v (becomes e a)
  effect_kind (Stored t r) e a h = λ q. becomes_kind e a (h q)
  effect_kind (Arrayed t r) e a h = tt
  effect_kind Counter e a h = tt
  effect_kind (Unknown sound) e a h = tt

  pub kinds_after : (n : ℕ) (e : Effects) (ls : List Local) (s : States) → AreKinds tables d f ls s → AreKinds tables d f ls (states_after n e s)
  kinds_after zero e ls s h = h
  kinds_after (suc n) e [] [] h = tt
  kinds_after (suc n) e (l ∷ ls) (a ∷ s) h = (effect_kind l.what (e n) a h.0, kinds_after n e ls s h.1)
  kinds_after (suc n) e [] (a ∷ s) h = absurd h
  kinds_after (suc n) e (l ∷ ls) [] h = absurd h

-- ---- the same locals, where more names are in scope

-- the types of locals name regions that were declared
abbrev pub WhatBelow : ℕ → What → Type 0
WhatBelow c (Stored t r) = TypeBelow c t
WhatBelow c (Arrayed t r) = Unit {0}
WhatBelow c Counter = Unit {0}
WhatBelow c (Unknown sound) = Unit {0}

abbrev pub LocalsBelow : ℕ → List Local → Type 0
LocalsBelow c [] = Unit {0}
LocalsBelow c (l ∷ ls) = WhatBelow c l.what × LocalsBelow c ls

module _ (tables : typing.Tables) (d : Tables) (f h : NameOf → Region) (c : ℕ) where
  local_alike : (v : What) (e : Entity) (a : State) (w : Ghost) (m : Memory) → Alike c f h → WhatBelow c v
      → LocalStands tables d f v e a w m → LocalStands tables d h v e a w m
  local_alike (Stored t r) (Variable sh at) a w m same below s = λ q.
      subst (λ (u : RunType). CellsStand a w m at (flat (Rattle.type_proof.proofs.invariant.Invariant.heap) d u))
      (sym (renamed_alike c f h t same below)) (s q)
  local_alike (Arrayed t r) e a w m same below s = tt
  local_alike Counter e a w m same below s = tt
  local_alike (Unknown sound) e a w m same below s = tt

  pub all_alike : (ls : List Local) (bs : List Binding) (s : States) (w : Ghost) (m : Memory) → Alike c f h → LocalsBelow c ls
      → AllStand tables d f ls bs s w m → AllStand tables d h ls bs s w m
  all_alike [] [] [] w m same below s = tt
  all_alike (l ∷ ls) (y ∷ bs) (a ∷ s) w m same below st =
      (local_alike l.what y.entity a w m same below.0 st.0, all_alike ls bs s w m same below.1 st.1)
  all_alike [] [] (a ∷ s) w m same below st = absurd st
  all_alike [] (y ∷ bs) s w m same below st = absurd st
  all_alike (l ∷ ls) [] s w m same below st = absurd st
  all_alike (l ∷ ls) (y ∷ bs) [] w m same below st = absurd st

-- ---- objects

-- the locals' objects are among those that were made
abbrev pub EntityCounted : Memory → Entity → Type 0
EntityCounted m (Variable sh at) = at.object < m.objects at.region

abbrev pub AllCounted : Memory → List Binding → Type 0
AllCounted m [] = Unit {0}
AllCounted m (y ∷ bs) = EntityCounted m y.entity × AllCounted m bs

pub counted_more : (m m' : Memory) (bs : List Binding) → ((r : Region) → m.objects r ≤ m'.objects r) → AllCounted m bs → AllCounted m' bs
counted_more m m' [] up h = tt
counted_more m m' (y ∷ bs) up h = (one y.entity h.0, counted_more m m' bs up h.1)
  where
    one : (e : Entity) → EntityCounted m e → EntityCounted m' e
    one (Variable sh at) l = let u : m.objects at.region ≤ m'.objects at.region = up at.region in omega (arith, l, u)

-- a new object lies apart from them
pub counted_apart : (m : Memory) (at : Spot) (bs : List Binding) → m.objects at.region ≤ at.object → AllCounted m bs → ApartFrom at bs
counted_apart m at [] l h = tt
counted_apart m at (y ∷ bs) l h = (one y.entity h.0, counted_apart m at bs l h.1)
  where
    one : (e : Entity) → EntityCounted m e → EntityApart at e
    one (Variable sh s) q = λ u v. let z : s.object < m.objects at.region = subst (λ (r : Region). s.object < m.objects r) (sym u) q in omega (arith, l, z, v)

-- ---- the locals of a scope

abbrev pub Standing : Tables → Env → Scope → (NameOf → Region) → States → Ghost → Memory → Type 0
Standing d g scope f s w m = AllStand g.tables d f g.locals scope.locals s w m

-- whether a local can't be copied, and so no pointer reaches its cells
abbrev pub owns : typing.Tables → What → Bool
owns tables (Stored t r) = not (is_copyable tables t)
owns tables (Arrayed t r) = not (is_copyable tables t)
owns tables Counter = false
owns tables (Unknown sound) = false

-- the same of a name, by the local that it is of
abbrev pub is_own : typing.Tables → Option Local → Bool
is_own tables None = false
is_own tables (Some l) = owns tables l.what
