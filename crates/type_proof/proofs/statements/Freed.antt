-- `ufree` and `free_ukey`: the local is moved, and the block that it led to, or its region, is freed.
use Rattle.std.proofs.Common.{◌≡◌, ℕ, Bool, true, false, Option, Some, None, List, [], ◌∷◌, refl, sym, ◌∙◌, ap, subst, arith}
use Rattle.cyc_tree.specs.Tree as tree
use Rattle.cyc_tree.specs.Tree.{Statement}
use Rattle.source_meaning.specs.Memory as memory
use Rattle.source_meaning.specs.Memory.{Region, Scalar, Memory, is_moved}
use Rattle.source_meaning.specs.Steps.{Entity, Scope, Act, Flow, Falls, ◌>>=◌, ◌>>◌, check, give}
use Rattle.source_meaning.specs.Values.{read_cell, put_content}
use Rattle.source_meaning.specs.Regions.{Operand, operand_of, local_freed, pointer_freed, key_freed}
use Rattle.source_meaning.specs.Statements.{statement}
use Rattle.source_typing.specs.Left.{Left, falls_in, freed, freed_by, left_by}
use Rattle.source_typing.specs.Places.{variable}
use Rattle.source_typing.specs.Scope.{Env, Local, Value, Seat, Nowhere, In, find_local, meant, seated}
use Rattle.source_typing.specs.States.{State, Gone, States, Passed, state_of, with_state, need_held, used_to, unless_lent}
use Rattle.source_typing.specs.Types.{StaticType, Unsigned, Fat, Unique, Key, renamed, shape_of}
use Rattle.source_typing.specs.Tables.{What, OfValue, Stored, Arrayed, Counter, Unknown, is_copyable}
use Rattle.source_typing.specs.Verdicts.{Of}
use Rattle.source_typing.proofs.Inversion.{of_is}
use Rattle.type_proof.specs.Flat.{Tables}
use Rattle.type_proof.specs.Judged.{KeyOperand, UniqueOperand}
use Rattle.type_proof.proofs.invariant.Invariant.{RunType, Flying, Ghost, HasType, Inv, Grows}
use Rattle.type_proof.proofs.invariant.Growth.{grows_trans}
use Rattle.type_proof.proofs.invariant.Runs.{Runs}
use Rattle.type_proof.proofs.invariant.After.{After}
use Rattle.type_proof.proofs.invariant.Cells.{seen, runs_read}
use Rattle.type_proof.proofs.invariant.Names.{NameOf, NamesOk}
use Rattle.type_proof.proofs.invariant.Sound.{cells_type}
use Rattle.type_proof.proofs.invariant.Rights.{HeldAt, runs_gone, runs_pointer_freed, runs_key_freed}
use Rattle.type_proof.proofs.invariant.LocalCells.{FreeAt, Whole, gone_free}
use Rattle.type_proof.proofs.invariant.Standing.{Standing, all_same}
use Rattle.type_proof.proofs.invariant.Arguments.{Agrees}
use Rattle.type_proof.proofs.invariant.Scenes.{Binds, Scene}
use Rattle.type_proof.proofs.expressions.Forms.{local_meant}
use Rattle.type_proof.proofs.expressions.Owned.{setting}
use Rattle.type_proof.proofs.statements.Flows.{WaysStand, Leaves}
use Rattle.type_proof.proofs.expressions.Uses.{Own, Setting, ours, here, alive, now, held_by}
use Rattle.type_proof.proofs.statements.Surroundings.{same_all}

module _ (n : ℕ) (d : Tables) (g : Env) (scope : Scope) (f : NameOf → Region) (b : ℕ) (z : Setting d g scope f b b) (x : tree.Name) where
  -- what is freed: what was moved out, and no cell changes
  abbrev Frees : StaticType → (Scalar → Act (Unit {0})) → Type 1
  Frees t frees = (k : ℕ) (w : Ghost) (m : Memory) (v : Scalar) (h : Act Flow) (Q : Flow → Memory → Type 0) → Inv d w m
      → HasType d w (Flying k 0) v (renamed f t)
      → ((w' : Ghost) (m' : Memory) → Inv d w' m' → Grows k b w m w' m' → ((s : memory.Spot) → m'.cells s ≡ m.cells s) → Runs n h m' Q)
      → Runs n (frees v >> h) m Q

  freed_local : (t : StaticType) → is_moved (shape_of t) ≡ true → (cells_type d f t ≡ renamed f t ∷ []) → (o : Own d g scope f x.text t)
      → (frees : Scalar → Act (Unit {0})) → Frees t frees
      → (at k : ℕ) (s : States) (w : Ghost) (m : Memory) → Inv d w m → NamesOk g.regions f k w m → Standing d g scope f s w m → (freed g at x s).faults ≡ []
      → Runs n (local_freed scope x.text frees >> give Falls) m
      (λ flow. After d k b w m (λ w' m'. (flow ≡ Falls) × Standing d g scope f (freed g at x s).states w' m'))
  freed_local t moves one o frees runs at k s w m i names st e0 =
      subst (λ (q : Option Entity). Runs n (act (operand_of q)) m post) (sym o.bound)
      (subst (λ (c : Bool). Runs n (act (check c >> give (record { shape = shape_of t; at = o.at }))) m post) (sym moves)
      (by a.0.values (subst (λ (ts : List RunType). HeldAt w m o.at ts a.0.values) one a.0.held)))
    where
      act : Act Operand → Act Flow
      act u = (u >>= λ y. read_cell y.at >>= λ v. put_content y.at memory.Gone >> frees v) >> give Falls

      post : Flow → Memory → Type 0
      post flow = After d k b w m (λ w' m'. (flow ≡ Falls) × Standing d g scope f (freed g at x s).states w' m')

      passed_is : freed g at x s ≡ used_to g.locals x need_held Gone s
      passed_is = ap (λ (l : Option Local). freed_by l g.locals at x s) o.found

      e : need_held x.at (state_of g.locals x.text s) ≡ []
      e = subst (λ (p : Passed). p.faults ≡ []) passed_is e0

      a : Whole w m o.at (cells_type d f t) × ((c : State) → unless_lent (state_of g.locals x.text s) c ≡ c)
      a = held_by n d g scope f b b z x t o x.at (state_of g.locals x.text s) w m (here n d g scope f b b z x t o s w m st) e

      by : (vs : List Scalar) → HeldAt w m o.at (renamed f t ∷ []) vs
          → Runs n ((read_cell o.at >>= λ v. put_content o.at memory.Gone >> frees v) >> give Falls) m post
      by [] h = absurd h
      by (v ∷ u ∷ vs) h = absurd h.2
      by (v ∷ []) h = record {
        by = λ next r. (runs_read n o.at (shape_of (renamed f t)) v (λ v2. put_content o.at memory.Gone >> (frees v2 >> give Falls)) m post
            (seen m o.at _ (alive n d g scope f b b z x t o k w m names) h.1)
            (runs_gone d n k b 0 w m o.at (renamed f t ∷ []) (v ∷ []) (frees v >> give Falls) post i (alive n d g scope f b b z x t o k w m names)
            (ours n d g scope f b b z x t o (omega arith)) h
            (λ w1 m1 i1 g1 fly out older away gone. runs k w1 m1 v (give Falls) post i1 fly.0
            (λ w2 m2 i2 g2 same. record {
              by = λ next2 r2. r2 Falls m2 (record {
                ghost = w2;
                inv = i2;
                grows = grows_trans g1 g2;
                holds = (
                  refl,
                  subst (λ (p : Passed). Standing d g scope f p.states w2 m2) (sym passed_is)
                      (subst (λ (c : State). Standing d g scope f (with_state g.locals x.text c s) w2 m2) (sym (a.1 Gone))
                      (all_same g.tables d f w1 m1 w2 m2 g.locals scope.locals (with_state g.locals x.text Gone s)
                      (same_all g.tables d f w1 m1 w2 m2 scope.locals g2.types same)
                      (now n d g scope f b b z x t o s Gone w m w1 m1 st (record { types = g1.types; cells = λ y u q p. away y q })
                      (subst (λ (ts : List RunType). FreeAt w1 m1 o.at ts) (sym one) (gone_free w1 m1 o.at (renamed f t ∷ []) gone))))),
                );
              });
            })))).by next r;
      }

  -- `ufree(x);`
  pub freed_unique : (at : ℕ) (nullable : Bool) (t : StaticType) (o : Own d g scope f x.text (Unique nullable t)) (k : ℕ) (s : States) (w : Ghost) (m : Memory)
      → Inv d w m
      → NamesOk g.regions f k w m → Standing d g scope f s w m → (freed g at x s).faults ≡ []
      → Runs n (statement (Statement.FreeUnique at x) scope) m
      (λ flow. After d k b w m (λ w' m'. (flow ≡ Falls) × Standing d g scope f (freed g at x s).states w' m'))
  freed_unique at nullable t o k s w m i names st e =
      freed_local (Unique nullable t) refl refl o pointer_freed (λ k2 w2 m2 v h Q i2 typed go. runs_pointer_freed d n k2 b w2 m2 v nullable
      (renamed f t) h Q i2 typed go) at k s w m i names st e

  -- `free_ukey(x);`
  pub freed_key : (at : ℕ) (r : NameOf) (o : Own d g scope f x.text (Key r)) (k : ℕ) (s : States) (w : Ghost) (m : Memory)
      → Inv d w m
      → NamesOk g.regions f k w m → Standing d g scope f s w m → (freed g at x s).faults ≡ []
      → Runs n (statement (Statement.FreeKey at x) scope) m
      (λ flow. After d k b w m (λ w' m'. (flow ≡ Falls) × Standing d g scope f (freed g at x s).states w' m'))
  freed_key at r o k s w m i names st e =
      freed_local (Key r) refl refl o key_freed (λ k2 w2 m2 v h Q i2 typed go. runs_key_freed d n k2 b w2 m2 v (f r) h Q i2 typed go) at k s w m i names st e

-- ---- the local

-- what is named as a value that can't be copied, and is a local
own_of : (d : Tables) (g : Env) (scope : Scope) (f : NameOf → Region) (x : tree.Name) (l : Local) (v : Value) (of : StaticType) → Binds g scope f
    → find_local g.locals x.text ≡ Some l → variable x.at (meant g x.text) ≡ Of v → v.type ≡ of → is_copyable g.tables of ≡ false → (of ≡ Unsigned → ⊥)
    → ((r : NameOf) (u : StaticType) → of ≡ Fat r u → ⊥) → Own d g scope f x.text of
own_of d g scope f x l v of binds found judged is moved number array = by l.what refl
  where
    means : (w : What) → l.what ≡ w → meant g x.text ≡ Some (OfValue w)
    means w e = local_meant g.locals g.tables x.text l found ∙ ap (λ (y : What). Some (OfValue y)) e

    value_is : (w : What) → l.what ≡ w → variable x.at (Some (OfValue w)) ≡ Of v
    value_is w e = ap (variable x.at) (sym (means w e)) ∙ judged

    type_is : (t : StaticType) (s : Seat) → seated x.at t s ≡ Of v → t ≡ of
    type_is t s e = ap (λ (y : Value). y.type) (of_is (record { at = x.at; type = t; seat = s }) v e) ∙ is

    by : (w : What) → l.what ≡ w → Own d g scope f x.text of
    by (Stored t r) e = subst (λ (u : StaticType). Own d g scope f x.text u) (type_is t (In r) (value_is (Stored t r) e)) (record {
      local = l;
      found = found;
      region = r;
      what = e;
      moved = ap (is_copyable g.tables) (type_is t (In r) (value_is (Stored t r) e)) ∙ moved;
      at = (binds.variables x.text (Stored t r) (means (Stored t r) e)).at;
      bound = (binds.variables x.text (Stored t r) (means (Stored t r) e)).is;
      lies = (binds.variables x.text (Stored t r) (means (Stored t r) e)).region;
      lives = binds.live x.text (Stored t r) (means (Stored t r) e);
    })
    by (Arrayed t r) e = absurd (array r t (sym (type_is (Fat r t) Nowhere (value_is (Arrayed t r) e))))
    by Counter e = absurd (number (sym (type_is Unsigned Nowhere (value_is Counter e))))
    by (Unknown sound) e = absurd (let z = value_is (Unknown sound) e in cc)

-- a unique pointer
pub unique_own : (d : Tables) (g : Env) (scope : Scope) (f : NameOf → Region) (x : tree.Name) (l : Local) → Binds g scope f
    → find_local g.locals x.text ≡ Some l
    → (o : UniqueOperand g x) → Own d g scope f x.text (Unique o.nullable o.to)
unique_own d g scope f x l binds found o =
    own_of d g scope f x l o.value (Unique o.nullable o.to) binds found o.judged o.is refl (λ e. cc) (λ r u e. cc)

-- a key
pub key_own : (d : Tables) (g : Env) (scope : Scope) (f : NameOf → Region) (x : tree.Name) (l : Local) → Binds g scope f
    → find_local g.locals x.text ≡ Some l
    → (o : KeyOperand g x) → Own d g scope f x.text (Key o.region)
key_own d g scope f x l binds found o = own_of d g scope f x l o.value (Key o.region) binds found o.judged o.is refl (λ e. cc) (λ r u e. cc)

-- what is freed is gone: what no local is named so isn't freed
leaves_freed : (n : ℕ) (d : Tables) (gives : RunType) (g : Env) (scope : Scope) (f : NameOf → Region) (b at : ℕ) (x : tree.Name) (t : StaticType)
    (p : States → Left) (act : Act Flow) → ((s : States) → p s ≡ falls_in (freed g at x s)) → Agrees scope.world d
    → ((l : Local) → find_local g.locals x.text ≡ Some l → Own d g scope f x.text t)
    → ((z : Setting d g scope f b b) (o : Own d g scope f x.text t) (k : ℕ) (s : States) (w : Ghost) (m : Memory) → Inv d w m
    → NamesOk g.regions f k w m → Standing d g scope f s w m → (freed g at x s).faults ≡ []
    → Runs n act m (λ flow. After d k b w m (λ w' m'. (flow ≡ Falls) × Standing d g scope f (freed g at x s).states w' m')))
    → Leaves n d gives g scope f b p act
leaves_freed n d gives g scope f b at x t p act rule agrees own frees = λ s e k w m i q.
    subst (λ (l : Left). Runs n act m (λ flow. After d k b w m (λ w' m'. WaysStand d gives g scope f l flow w' m'))) (sym (rule s))
    (by s (ap (λ (l : Left). l.faults) (sym (rule s)) ∙ e) k w m i q (find_local g.locals x.text) refl)
  where
    by : (s : States) → (freed g at x s).faults ≡ [] → (k : ℕ) (w : Ghost) (m : Memory) → Inv d w m → Scene d g scope f b b s k w m
        → (l : Option Local) → find_local g.locals x.text ≡ l
        → Runs n act m (λ flow. After d k b w m (λ w' m'. WaysStand d gives g scope f (falls_in (freed g at x s)) flow w' m'))
    by s e k w m i q None found = absurd (let z = ap (λ (l : Option Local). (freed_by l g.locals at x s).faults) (sym found) ∙ e in cc)
    by s e k w m i q (Some l) found = record {
      by = λ next go. (frees (setting n d g scope f b b agrees s k w m q) (own l found) k s w m i q.names q.stands e).by next
          (λ flow m1 y. go flow m1 (record {
            ghost = y.ghost;
            inv = y.inv;
            grows = y.grows;
            holds = subst (λ (a : Flow). WaysStand d gives g scope f (falls_in (freed g at x s)) a y.ghost m1) (sym y.holds.0)
                ((freed g at x s).states, refl, y.holds.1);
          }));
    }

-- `ufree(x);` leaves x gone
pub leaves_free : (n : ℕ) (d : Tables) (gives : RunType) (g : Env) (scope : Scope) (f : NameOf → Region) (b at : ℕ) (x : tree.Name) → Agrees scope.world d
    → Binds g scope f → UniqueOperand g x
    → Leaves n d gives g scope f b (left_by g (Statement.FreeUnique at x)) (statement (Statement.FreeUnique at x) scope)
leaves_free n d gives g scope f b at x agrees binds o =
    leaves_freed n d gives g scope f b at x (Unique o.nullable o.to) (left_by g (Statement.FreeUnique at x)) (statement (Statement.FreeUnique at x) scope)
    (λ s. refl) agrees (λ l found. unique_own d g scope f x l binds found o)
    (λ z own k s w m i names st e. freed_unique n d g scope f b z x at o.nullable o.to own k s w m i names st e)

-- and so does `free_ukey(x);`
pub leaves_free_key : (n : ℕ) (d : Tables) (gives : RunType) (g : Env) (scope : Scope) (f : NameOf → Region) (b at : ℕ) (x : tree.Name) → Agrees scope.world d
    → Binds g scope f → KeyOperand g x
    → Leaves n d gives g scope f b (left_by g (Statement.FreeKey at x)) (statement (Statement.FreeKey at x) scope)
leaves_free_key n d gives g scope f b at x agrees binds o =
    leaves_freed n d gives g scope f b at x (Key o.region) (left_by g (Statement.FreeKey at x)) (statement (Statement.FreeKey at x) scope)
    (λ s. refl) agrees (λ l found. key_own d g scope f x l binds found o)
    (λ z own k s w m i names st e. freed_key n d g scope f b z x at o.region own k s w m i names st e)
