-- A function without fault, where all is known of each global name: its body is in order in the scope of its parameters, lowering takes it, and its end is
-- reached only where nothing has to be given.
use Rattle.std.proofs.Common.{◌≡◌, ℕ, Bool, true, false, ◌⊎◌, inl, inr, Option, Some, List, [], ◌∷◌, refl, sym, subst, ap, ◌∙◌, ◌≤◌, arith}
use Rattle.std.specs.Prelude.{◌&&◌, ◌+◌, ◌||◌, bytes_eq, codes, map, nat_eq, not}
use Rattle.std.proofs.lemmas.Bool.{not-true}
use Rattle.cyc_tree.specs.Operands.{ItemsHaveOperands}
use Rattle.cyc_tree.specs.Tree as tree
use Rattle.source_meaning.specs.Calls.{function_of}
use Rattle.source_meaning.specs.Programs.{is_main, routine_of}
use Rattle.source_meaning.specs.Shapes.{Part, has_tag, part_of}
use Rattle.source_meaning.specs.Steps.{World}
use Rattle.type_proof.specs.Entries.{AreObjects, Function}
use Rattle.type_proof.specs.Judged.{ItemsJudged, extended}
use Rattle.source_typing.specs.Named.{AllBelow, BoundsBelow, TypeBelow, TypesBelow}
use Rattle.type_proof.specs.Programs.{FunctionJudged, name_alone, with_all}
use Rattle.source_typing.specs.Faults.{name_rule, own_after, test, type_rule}
use Rattle.source_typing.specs.Functions.{Head, body_scope, end_reached, function_faults, function_scope, head_of, needs_return, variables, with_parameters}
use Rattle.source_typing.specs.Left.{body_flow}
use Rattle.source_typing.specs.Regions.{entry_regions}
use Rattle.source_typing.specs.Scope.{Env, at_item, is_second, with_local}
use Rattle.source_typing.specs.Statements.{items_faults}
use Rattle.source_typing.specs.Tables.{Arrayed, Counter, Entry, OfBuiltin, OfFunction, OfOther, OfTag, OfValue, Signature, Stored, Tables, Unknown, find}
use Rattle.source_typing.specs.Tags.{is_named, repeated}
use Rattle.source_typing.specs.Types.{Int, StaticType, Void, is_void}
use Rattle.source_typing.specs.Ways.{ways_of_items}
use Rattle.source_typing.proofs.Inversion.{none_of_both, own_is, test_is}
use Rattle.accepted_proof.specs.Good.{AllGood, BodiesJudged, IsGood, IsGoodEntry, IsStructTag, MeansNamed}
use Rattle.accepted_proof.proofs.kinds.Types.{TypesName, parameters_named, structs_known}
use Rattle.accepted_proof.proofs.good.Scopes.{good_local, one_more}
use Rattle.source_typing.proofs.NamedBelow.{below_more}
use Rattle.accepted_proof.proofs.HeadTypes.{object_more}
use Rattle.accepted_proof.proofs.good.Types.{good_tags}
use Rattle.accepted_proof.proofs.Heads.{HeadGood, head_good}
use Rattle.source_typing.proofs.NamedBelow.{names_up}
use Rattle.type_proof.proofs.statements.Parameters.{types_up}

-- ---- the scope of its parameters

-- a name that isn't among those before is none of the scope's block
abbrev AreThose : List tree.Member → Env → Type 0
AreThose before g = (x : List ℕ) → is_named before x ≡ false → is_second g.locals g.block x ≡ false

with_one : (m : tree.Member) (before : List tree.Member) (t : StaticType) (g : Env) → AreThose before g → AreThose (m ∷ before) (extended g m.name t)
with_one m before t g h x e = by (bytes_eq m.name.text x) (nat_eq g.block g.block) e
  where
    by : (b c : Bool) → b || is_named before x ≡ false → (c && b) || is_second g.locals g.block x ≡ false
    by true c e = absurd cc
    by false true e = h x e
    by false false e = h x e

same_scope : (ms before : List tree.Member) (ts : List StaticType) (g : Env) → repeated before ms ≡ [] → AreThose before g
    → with_parameters ms (map (λ t. Some t) ts) g ≡ with_all (map part_of ms) ts g
same_scope [] before ts g r h = refl
same_scope (m ∷ ms) before [] g r h = refl
same_scope (m ∷ ms) before (t ∷ ts) g r h =
    let e : (test (not (is_named before m.name.text)) name_rule m.name.at ≡ []) × (repeated (m ∷ before) ms ≡ []) =
    none_of_both (test (not (is_named before m.name.text)) name_rule m.name.at) (repeated (m ∷ before) ms) r in
    let n : is_named before m.name.text ≡ false =
    not-true (is_named before m.name.text) (test_is (not (is_named before m.name.text)) name_rule m.name.at e.0) in
    let s : with_local m.name (Stored t g.frame) g ≡ extended g m.name t =
    one_more m.name (Stored t g.frame) g (ap (λ (b : Bool). test (not b) name_rule m.name.at) (h m.name.text n)) in
    ap (λ (z : Env). with_parameters ms (map (λ t. Some t) ts) z) s
    ∙ same_scope ms (m ∷ before) ts (extended g m.name t) e.1 (with_one m before t g h)

all_good : (ps : List Part) (ts : List StaticType) (g : Env) → AreObjects ts → TypesBelow g.regions.count ts → TypesName (IsStructTag g.tables) ts → IsGood g
    → IsGood (with_all ps ts g)
all_good [] ts g w b k h = h
all_good (p ∷ ps) [] g w b k h = h
all_good (p ∷ ps) (t ∷ ts) g w b k h =
    all_good ps ts (extended g (name_alone p.name) t) w.1 b.1 k.1 (good_local (name_alone p.name) t g w.0 b.0 k.0 h)

pub all_result : (ps : List Part) (ts : List StaticType) (g : Env) → (with_all ps ts g).result ≡ g.result
all_result [] ts g = refl
all_result (p ∷ ps) [] g = refl
all_result (p ∷ ps) (t ∷ ts) g = all_result ps ts (extended g (name_alone p.name) t)

-- ---- more region names

entry_more : (n : ℕ) (e : Entry) → IsGoodEntry 0 e → IsGoodEntry n e
entry_more n (OfValue (Stored t r)) h =
    let least : 0 ≤ n = omega arith in (h.0, object_more 0 n t least h.0 h.1, below_more 0 n r least h.2)
entry_more n (OfFunction s) h = h
entry_more n (OfBuiltin k) h = h
entry_more n (OfValue (Arrayed t r)) h =
    let least : 0 ≤ n = omega arith in (h.0, object_more 0 n t least h.0 h.1, below_more 0 n r least h.2)
entry_more n (OfValue Counter) h = tt
entry_more n (OfValue (Unknown sound)) h = absurd h
entry_more n (OfTag t) h = h
entry_more n OfOther h = absurd h

tables_more : (n : ℕ) (g : Tables) → AllGood 0 g → AllGood n g
tables_more n [] h = tt
tables_more n (x ∷ xs) h = (entry_more n x.entry h.0, tables_more n xs h.1)

-- ---- the scope around its block

-- all tags are known, structs' and unions'
abbrev pub KindsKnown : Tables → Type 0
KindsKnown g = (x : List ℕ) → MeansNamed (IsStructTag g) x (find g x)

-- the scope around a function's block
abbrev outside : Tables → ℕ → Head → Env
outside g i h = record (at_item false g i) {
  names = h.names;
  regions = entry_regions h.signature.regions h.signature.effect h.signature.bounds;
  result = h.signature.result;
}

-- where all is known of each global, whose types name no region but the heap
outside_good : (g : Tables) (i : ℕ) (f : tree.Function) → AllGood 0 g → KindsKnown g → HeadGood g f → IsGood (function_scope false g i (head_of false g f))
outside_good g i f a kinds k =
    let h : Head = head_of false g f in
    let n : ℕ = h.signature.regions in
    record {
      names = tables_more (n + 1) g a;
      regions = names_up n h.names k.names;
      frame = omega arith;
      enclosing = tt;
      kinds = record { tables = kinds; locals = tt };
      blocks = tt;
    }

-- ---- what is known of it

-- by the program's tables, as an item with so many before it
pub record FunctionGood (g : Tables) (i : ℕ) (f : tree.Function) : Type 0 where
  pub clean : (head_of false g f).faults ≡ []
  pub head : HeadGood g f
  pub body : ItemsJudged (with_all (map part_of f.parameters) head.signature.types (function_scope false g i (head_of false g f))) true f.body
  pub end : end_reached f (head_of false g f) ≡ false
  pub faults : items_faults (with_all (map part_of f.parameters) head.signature.types (function_scope false g i (head_of false g f))) true f.body ≡ []
  pub flow : body_flow (with_all (map part_of f.parameters) head.signature.types (function_scope false g i (head_of false g f))) f ≡ []

module _ (bodies : BodiesJudged) where
  pub function_good : (g : Tables) (i : ℕ) (f : tree.Function) → AllGood 0 g → KindsKnown g → ItemsHaveOperands f.body
      → function_faults false g i f ≡ [] → body_flow (body_scope false g i f (head_of false g f)) f ≡ []
      → FunctionGood g i f
  function_good g i f a kinds o p flow =
      let h : Head = head_of false g f in
      let s : Env = body_scope false g i f h in
      let q : (h.faults ≡ []) × (own_after (test (not (end_reached f h)) type_rule f.end) (items_faults s true f.body) ≡ []) =
      none_of_both h.faults (own_after (test (not (end_reached f h)) type_rule f.end) (items_faults s true f.body)) p in
      let b : (test (not (end_reached f h)) type_rule f.end ≡ []) × (items_faults s true f.body ≡ []) =
      own_is (test (not (end_reached f h)) type_rule f.end) (items_faults s true f.body) q.1 in
      let k : HeadGood g f = head_good g f (good_tags 0 g a) q.0 in
      let inside : Env = function_scope false g i h in
      let all : Env = with_all (map part_of f.parameters) k.signature.types inside in
      let same : s ≡ all =
      ap (λ ts. with_parameters f.parameters ts inside) k.signature.parameters
      ∙ same_scope f.parameters [] k.signature.types inside k.once (λ x e. refl) in
      let scope : IsGood all =
      all_good (map part_of f.parameters) k.signature.types inside k.signature.objects
      (types_up h.signature.regions k.signature.types k.signature.types_below)
      (parameters_named (IsStructTag g) g (variables [] 0) f.parameters k.signature.types (structs_known (IsStructTag g) g kinds) k.signature.parameters)
      (outside_good g i f a kinds k) in
      record {
        clean = q.0;
        head = k;
        body = bodies f.body all k.signature.gives scope (all_result (map part_of f.parameters) k.signature.types inside ∙ k.signature.result)
            k.signature.plain o (subst (λ (z : Env). items_faults z true f.body ≡ []) same b.1);
        end = not-true (end_reached f h) (test_is (not (end_reached f h)) type_rule f.end b.0);
        faults = subst (λ (z : Env). items_faults z true f.body ≡ []) same b.1;
        flow = subst (λ (z : Env). body_flow z f ≡ []) same flow;
      }

-- ---- what its name means

-- where a name's function is found
pub record FunctionNamed (world : World) (g : Tables) (x : List ℕ) (s : Signature) (f : tree.Function) : Type 0 where
  pub not_made : has_tag world.structs x ≡ false
  pub found : function_of world.functions x ≡ Some (routine_of f)
  pub not_read : bytes_eq x (codes "getchar") ≡ false
  pub not_written : bytes_eq x (codes "putchar") ≡ false
  pub signature : (head_of false g f).signature ≡ s

abbrev pub function_is : (world : World) (g : Tables) (i : ℕ) (x : List ℕ) (s : Signature) (f : tree.Function) → FunctionNamed world g x s f
    → FunctionGood g i f
    → Function world x s
function_is world g i x s f n k = record {
  routine = routine_of f;
  found = n.found;
  not_read = n.not_read;
  not_written = n.not_written;
  not_made = n.not_made;
  types = k.head.signature.types;
  parameters = ap (λ (z : Signature). z.parameters) (sym n.signature) ∙ k.head.signature.parameters;
  shapes = k.head.shapes;
  objects = k.head.signature.objects;
  gives = k.head.signature.gives;
  result = ap (λ (z : Signature). z.result) (sym n.signature) ∙ k.head.signature.result;
  shape = k.head.result.shape;
  plain = k.head.signature.plain;
}

-- ---- its end

end_is : (s w : Bool) (r : Option StaticType) (t : StaticType) (m : Bool) → s ≡ true → w ≡ true → r ≡ Some t
    → s && w && needs_return r && not m ≡ false → (is_void t ≡ true) ⊎ (m ≡ true)
end_is s w r t true a b c e = inr refl
end_is s w r t false a b c e =
    let e1 : true && w && needs_return r && not false ≡ false = subst (λ (z : Bool). z && w && needs_return r && not false ≡ false) a e in
    let e2 : true && true && needs_return r && not false ≡ false = subst (λ (z : Bool). true && z && needs_return r && not false ≡ false) b e1 in
    inl (by (is_void t) (subst (λ (z : Option StaticType). true && true && needs_return z && not false ≡ false) c e2))
  where
    by : (v : Bool) → true && true && not v && not false ≡ false → v ≡ true
    by true e = refl
    by false e = absurd cc

void_is : (t : StaticType) → is_void t ≡ true → t ≡ Void
void_is Void e = refl
void_is _ e = absurd cc

ends : (g : Tables) (i : ℕ) (f : tree.Function) (k : FunctionGood g i f) → (ways_of_items f.body).falls ≡ true
    → (k.head.signature.gives ≡ Void) ⊎ ((is_main f.name.text ≡ true) × (k.head.signature.gives ≡ Int))
ends g i f k w =
    let h : Head = head_of false g f in
    by (end_is h.signature.sound (ways_of_items f.body).falls h.signature.result k.head.signature.gives (is_main f.name.text)
    k.head.signature.sound w k.head.signature.result k.end)
  where
    by : (is_void k.head.signature.gives ≡ true) ⊎ (is_main f.name.text ≡ true)
        → (k.head.signature.gives ≡ Void) ⊎ ((is_main f.name.text ≡ true) × (k.head.signature.gives ≡ Int))
    by (inl v) = inl (void_is k.head.signature.gives v)
    by (inr m) = inr (m, k.head.main_gives m)

-- ---- all of it

pub function_judged : (world : World) (g : Tables) (i : ℕ) (x : List ℕ) (s : Signature) (f : tree.Function) (n : FunctionNamed world g x s f)
    (k : FunctionGood g i f) → FunctionJudged world g x s (function_is world g i x s f n k)
function_judged world g i x s f n k =
    let h : Head = head_of false g f in
    record {
      outside = outside g i h;
      tables_are = refl;
      locals = refl;
      regions = ap (λ (z : Signature). entry_regions z.regions z.effect z.bounds) n.signature;
      strict = refl;
      enclosing = refl;
      takes_below = subst (λ (z : Signature). TypesBelow z.regions k.head.signature.types) n.signature k.head.signature.types_below;
      gives_below = subst (λ (z : Signature). TypeBelow z.regions k.head.signature.gives) n.signature k.head.signature.gives_below;
      effect_below = subst (λ (z : Signature). AllBelow z.regions z.effect) n.signature k.head.effect;
      bounds_below = subst (λ (z : Signature). BoundsBelow z.regions z.bounds) n.signature k.head.bounds;
      result = k.head.signature.result;
      no_loop = refl;
      no_switch = refl;
      body = k.body;
      flow = k.flow;
      ends = ends g i f k;
    }
