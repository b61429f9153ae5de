-- Calls and makings of structs that lowering takes.
use Rattle.std.proofs.Common.{◌≡◌, ◌⊎◌, ℕ, Bool, true, false, inl, inr, Option, Some, None, List, [], ◌∷◌, refl, sym, subst, ap, ◌∙◌, arith}
use Rattle.std.specs.Prelude.{bytes_eq, codes, if◌then◌else◌, length, map, nat_eq}
use Rattle.std.proofs.lemmas.Bool.{eqb-true, false≢true}
use Rattle.cyc_tree.specs.Tree.{Expression, Expressions, MoreExpressions, Name, NoExpressions}
use Rattle.source_lowering.specs.Lowerable.{Takes, TakesAll, TakesCalled, TakesMade, TakesMember, TakesWhole}
use Rattle.source_lowering.specs.Lowered.{Named, call_shape, result_shape, static_shape}
use Rattle.source_lowering.specs.Whole.{makes_struct}
use Rattle.source_meaning.specs.Calls.{function_of}
use Rattle.source_meaning.specs.Shapes as shapes
use Rattle.source_meaning.specs.Shapes.{IntShape, Part, Shape, StructShape, has_tag, parts_of}
use Rattle.source_meaning.specs.Steps.{World}
use Rattle.source_typing.specs.Calls.{Target, ToBuiltin, ToFunction, ToStruct, arguments_fit, builtin_parameters}
use Rattle.source_typing.specs.Calls.{call_entered, called, part_types, target, target_of_tag, typed_result}
use Rattle.source_typing.specs.Converts.{Converts}
use Rattle.source_typing.specs.Regions.{Region}
use Rattle.source_typing.specs.Scope.{Env, Value, is_place, value}
use Rattle.source_typing.specs.Tables as typing
use Rattle.source_typing.specs.Tables.{Arrayed, Counter, Entry, OfBuiltin, OfFunction, OfOther, OfTag, OfValue, Signature, Stored, Tag, Unknown, argument}
use Rattle.source_typing.specs.Types.{Char, Fat, Handle, Int, Key, Null, StaticType, Struct, Thin, Union, Unique, Unsigned, Void, renamed, shape_of}
use Rattle.source_typing.specs.Verdicts.{Of, other_kind}
use Rattle.source_typing.proofs.CallsFit.{AllConvert, arguments_are, sound_is, struct_is}
use Rattle.source_typing.proofs.Inversion.{after_is, of_is, unless_is}
use Rattle.type_proof.specs.Entries.{Builtin}
use Rattle.type_proof.specs.Structs.{AreMembers}
use Rattle.type_proof.proofs.expressions.Members.{members_known}
use Rattle.type_proof.proofs.invariant.Sound.{shape_renamed}
use Rattle.type_proof.proofs.expressions.WordRules.{Valued, value_of}
use Rattle.accepted_proof.proofs.Known.{IsKnown, IsKnownValue, IsWhole, IsWord, converts_whole, converts_word, word_shape}
use Rattle.accepted_proof.proofs.lowered.Forms.{AreKnown, AreWords, IsGiven, IsTaken, KnownEntry, KnownFunction, KnownKind, KnownTag, TakenAs, TakenWord}
use Rattle.accepted_proof.proofs.lowered.Forms.{word_is}
use Rattle.accepted_proof.proofs.lowered.Stands.{stands_same}

pub no_kind : {A : Type 0} (c : Bool) (at : ℕ) (v : A) → other_kind c at ≡ Of v → ⊥
no_kind true at v e = cc
no_kind false at v e = cc

-- other regions make no other kind of type
pub word_renamed : (f : Region → Region) (t : StaticType) → IsWord t → IsWord (renamed f t)
word_renamed f Void h = absurd h
word_renamed f (Struct tag rs) h = absurd h
word_renamed f Null h = tt
word_renamed f Int h = tt
word_renamed f Unsigned h = tt
word_renamed f Char h = tt
word_renamed f (Thin n r t) h = tt
word_renamed f (Fat r t) h = tt
word_renamed f (Unique n t) h = tt
word_renamed f (Handle r) h = tt
word_renamed f (Key r) h = tt
word_renamed f (Union tag rs) h = absurd h

-- what no name of a struct calls makes none
makes_none : (w : World) (x : List ℕ) → has_tag w.structs x ≡ false → makes_struct w x ≡ false
makes_none w x e = by (bytes_eq x (codes "getchar")) (bytes_eq x (codes "putchar"))
  where
    by : (a b : Bool) → (if a then false else (if b then false else has_tag w.structs x)) ≡ false
    by true b = refl
    by false true = refl
    by false false = e

pub makes_one : (w : World) (x : List ℕ) → bytes_eq x (codes "getchar") ≡ false → bytes_eq x (codes "putchar") ≡ false → has_tag w.structs x ≡ true
    → makes_struct w x ≡ true
makes_one w x a b c =
    ap (λ z. if z then false else (if bytes_eq x (codes "putchar") then false else has_tag w.structs x)) a
    ∙ (ap (λ z. if z then false else has_tag w.structs x) b ∙ c)

-- what another name gives: the struct that it makes, or a function's result
abbrev called_shape : World → List ℕ → Shape
called_shape w x = (if has_tag w.structs x then StructShape x else result_shape (function_of w.functions x))

builtin_shape : (w : World) (x : List ℕ) (n : ℕ) → Builtin x n → call_shape w x ≡ IntShape
builtin_shape w x n (inl z) =
    ap (λ b. if b then IntShape else (if bytes_eq x (codes "putchar") then IntShape else called_shape w x)) z.0
builtin_shape w x n (inr z) =
    ap (λ b. if b then IntShape else (if bytes_eq x (codes "putchar") then IntShape else called_shape w x)) z.0
    ∙ ap (λ b. if b then IntShape else called_shape w x) z.1

struct_shape : (w : World) (x : List ℕ) → bytes_eq x (codes "getchar") ≡ false → bytes_eq x (codes "putchar") ≡ false → has_tag w.structs x ≡ true
    → call_shape w x ≡ StructShape x
struct_shape w x a b c =
    ap (λ z. if z then IntShape else (if bytes_eq x (codes "putchar") then IntShape else called_shape w x)) a
    ∙ (ap (λ z. if z then IntShape else called_shape w x) b ∙ ap (λ z. if z then StructShape x else result_shape (function_of w.functions x)) c)

module _ (w : World) (names : List Named) where
  -- arguments, one after another
  abbrev pub AllTaken : Expressions → List Value → Type 0
  AllTaken NoExpressions [] = Unit {0}
  AllTaken (MoreExpressions e es) (v ∷ vs) = IsTaken w names e v × AllTaken es vs
  AllTaken _ _ = ⊥

  words_taken : (g : Env) (rs : List Region) (ts : List StaticType) (es : Expressions) (vs : List Value) → AreWords ts
      → length (map (λ (t : StaticType). Some t) ts) ≡ length vs → AllConvert g rs (map (λ (t : StaticType). Some t) ts) vs → AllTaken es vs
      → TakesAll w names es
  words_taken g rs [] NoExpressions [] i c a h = tt
  words_taken g rs (t ∷ ts) (MoreExpressions e es) (v ∷ vs) i c a h = (
    (word_is w names v.type e (converts_word g.regions v.type (renamed (argument rs) t) a.0 (word_renamed (argument rs) t i.0)) h.0.value).takes,
    words_taken g rs ts es vs i.1 (omega (arith, c)) a.1 h.1,
  )
  words_taken g rs [] NoExpressions (v ∷ vs) i c a h = absurd h
  words_taken g rs [] (MoreExpressions e es) [] i c a h = absurd h
  words_taken g rs [] (MoreExpressions e es) (v ∷ vs) i c a h = absurd (omega (arith, c))
  words_taken g rs (t ∷ ts) NoExpressions [] i c a h = absurd (omega (arith, c))
  words_taken g rs (t ∷ ts) NoExpressions (v ∷ vs) i c a h = absurd h
  words_taken g rs (t ∷ ts) (MoreExpressions e es) [] i c a h = absurd h

  -- an argument for a member of a type
  pub word_member : (s : Shape) (whole word : Type 0) → Rattle.source_lowering.specs.Lowerable.IsOperandShape s → word → TakesMember s whole word
  word_member (shapes.StructShape tag) whole word h k = absurd h
  word_member shapes.IntShape whole word h k = k
  word_member shapes.UnsignedShape whole word h k = k
  word_member shapes.CharShape whole word h k = k
  word_member shapes.VoidShape whole word h k = k
  word_member (shapes.ThinShape n o t) whole word h k = k
  word_member (shapes.FatShape t) whole word h k = k
  word_member shapes.HandleShape whole word h k = k
  word_member shapes.KeyShape whole word h k = k
  word_member (shapes.UnionShape tag) whole word h k = absurd h
  word_member (shapes.ArrayShape n t) whole word h k = k

  -- a type is a word's, a struct's or a union's, where its shape is known
  pub word_or_whole : (t : StaticType) → IsKnown w (shape_of t) → IsWord t ⊎ IsWhole t
  word_or_whole Void h = absurd h
  word_or_whole (Struct tag rs) h = inr tt
  word_or_whole (Union tag rs) h = inr tt
  word_or_whole Null h = inl tt
  word_or_whole Int h = inl tt
  word_or_whole Unsigned h = inl tt
  word_or_whole Char h = inl tt
  word_or_whole (Thin n r t) h = inl tt
  word_or_whole (Fat r t) h = inl tt
  word_or_whole (Unique n t) h = inl tt
  word_or_whole (Handle r) h = inl tt
  word_or_whole (Key r) h = inl tt

  pub whole_taken : (t : StaticType) (e : Expression) → IsWhole t → TakenAs w names t e → TakesWhole w names e
  whole_taken (Struct tag rs) e h k = k.takes
  whole_taken (Union tag rs) e h k = k.takes
  whole_taken _ e h k = absurd h

  whole_renamed : (f : Region → Region) (t : StaticType) → IsWhole t → IsWhole (renamed f t)
  whole_renamed f (Struct tag rs) h = tt
  whole_renamed f (Union tag rs) h = tt
  whole_renamed f _ h = absurd h

  whole_member : (t : StaticType) (whole word : Type 0) → IsWhole t → whole → TakesMember (shape_of t) whole word
  whole_member (Struct tag rs) whole word h k = k
  whole_member (Union tag rs) whole word h k = k
  whole_member _ whole word h k = absurd h

  member_taken : (g : Env) (rs : List Region) (t : StaticType) (e : Expression) (v : Value) → IsKnown w (shape_of t)
      → Converts g.regions v.type (renamed (argument rs) t) → IsTaken w names e v → TakesMember (shape_of t) (TakesWhole w names e) (Takes w names e)
  member_taken g rs t e v k c h = by (word_or_whole t k)
    where
      by : IsWord t ⊎ IsWhole t → TakesMember (shape_of t) (TakesWhole w names e) (Takes w names e)
      by (inl i) =
          word_member (shape_of t) (TakesWhole w names e) (Takes w names e) (word_shape t i)
          (word_is w names v.type e (converts_word g.regions v.type (renamed (argument rs) t) c (word_renamed (argument rs) t i)) h.value).takes
      by (inr i) =
          let s : IsWhole (renamed (argument rs) t) = whole_renamed (argument rs) t i in
          let q : v.type ≡ renamed (argument rs) t = converts_whole g.regions v.type (renamed (argument rs) t) c s in
          whole_member t (TakesWhole w names e) (Takes w names e) i
          (whole_taken (renamed (argument rs) t) e s (subst (λ z. TakenAs w names z e) q h.value))

  made_taken : (g : Env) (rs : List Region) (ps : List typing.Part) (qs : List Part) (ts : List StaticType) (es : Expressions) (vs : List Value)
      → AreMembers ps qs ts → AreKnown w ts → length (map (λ (t : StaticType). Some t) ts) ≡ length vs
      → AllConvert g rs (map (λ (t : StaticType). Some t) ts) vs → AllTaken es vs → TakesMade w names qs es
  made_taken g rs [] [] [] NoExpressions [] m k c a h = tt
  made_taken g rs (p ∷ ps) (q ∷ qs) (t ∷ ts) (MoreExpressions e es) (v ∷ vs) m k c a h = (
    subst (λ s. TakesMember s (TakesWhole w names e) (Takes w names e)) (sym m.2) (member_taken g rs t e v k.0 a.0 h.0),
    made_taken g rs ps qs ts es vs m.3 k.1 (omega (arith, c)) a.1 h.1,
  )
  made_taken g rs [] [] [] NoExpressions (v ∷ vs) m k c a h = absurd h
  made_taken g rs [] [] [] (MoreExpressions e es) [] m k c a h = absurd h
  made_taken g rs [] [] [] (MoreExpressions e es) (v ∷ vs) m k c a h = absurd (omega (arith, c))
  made_taken g rs (p ∷ ps) (q ∷ qs) (t ∷ ts) NoExpressions [] m k c a h = absurd (omega (arith, c))
  made_taken g rs (p ∷ ps) (q ∷ qs) (t ∷ ts) NoExpressions (v ∷ vs) m k c a h = absurd h
  made_taken g rs (p ∷ ps) (q ∷ qs) (t ∷ ts) (MoreExpressions e es) [] m k c a h = absurd h
  made_taken g rs [] [] (t ∷ ts) es vs m k c a h = absurd m
  made_taken g rs [] (q ∷ qs) ts es vs m k c a h = absurd m
  made_taken g rs (p ∷ ps) [] ts es vs m k c a h = absurd m
  made_taken g rs (p ∷ ps) (q ∷ qs) [] es vs m k c a h = absurd m

  -- ---- what a call gives

  given_known : (f : Region → Region) (t : StaticType) → IsGiven w t → IsKnownValue w (renamed f t)
  given_known f Void h = tt
  given_known f Null h = tt
  given_known f (Struct tag rs) h = absurd h.0
  given_known f Int h = tt
  given_known f Unsigned h = tt
  given_known f Char h = tt
  given_known f (Thin n r t) h = subst (λ s. IsKnown w s) (sym (shape_renamed f t)) h.1
  given_known f (Fat r t) h = subst (λ s. IsKnown w s) (sym (shape_renamed f t)) h.1
  given_known f (Unique n t) h = subst (λ s. IsKnown w s) (sym (shape_renamed f t)) h.1
  given_known f (Handle r) h = tt
  given_known f (Key r) h = tt
  given_known f (Union tag rs) h = absurd h.0

  given_word : (f : Region → Region) (t : StaticType) (e : Expression) → Takes w names e → static_shape w names e ≡ shape_of t
      → TakenWord w names e (renamed f t)
  given_word f t e k s =
      record { takes = k; shape = stands_same (static_shape w names e) (shape_of (renamed f t)) (s ∙ sym (shape_renamed f t)) }

  given_value : (f : Region → Region) (t : StaticType) (e : Expression) → IsGiven w t → Takes w names e
      → static_shape w names e ≡ shape_of t → TakenAs w names (renamed f t) e
  given_value f Void e h k s = tt
  given_value f Null e h k s = given_word f Null e k s
  given_value f (Struct tag rs) e h k s = absurd h.0
  given_value f Int e h k s = given_word f Int e k s
  given_value f Unsigned e h k s = given_word f Unsigned e k s
  given_value f Char e h k s = given_word f Char e k s
  given_value f (Thin n r t) e h k s = given_word f (Thin n r t) e k s
  given_value f (Fat r t) e h k s = given_word f (Fat r t) e k s
  given_value f (Unique n t) e h k s = given_word f (Unique n t) e k s
  given_value f (Handle r) e h k s = given_word f (Handle r) e k s
  given_value f (Key r) e h k s = given_word f (Key r) e k s
  given_value f (Union tag rs) e h k s = absurd h.0

  word_call : (f : Region → Region) (x : Name) (es : Expressions) (v : Value) (t : StaticType) → has_tag w.structs x.text ≡ false → TakesAll w names es
      → call_shape w x.text ≡ shape_of t → IsGiven w t → Valued v (renamed f t) → IsTaken w names (Expression.Call x es) v
  word_call f x es v t n k s h d = record {
    known = subst (λ z. IsKnownValue w z) (sym d.type) (given_known f t h);
    value = subst (λ z. TakenAs w names z (Expression.Call x es)) (sym d.type) (given_value f t (Expression.Call x es) h (n, k) s);
    run = subst (λ b. TakesCalled b (TakesWhole w names (Expression.Call x es)) (Takes w names (Expression.Call x es)))
        (sym (makes_none w x.text n)) (n, k);
    place = λ z. absurd (false≢true (sym (ap (λ (y : Rattle.source_typing.specs.Scope.Seat). is_place y) d.seat) ∙ z));
  }

  module _ (g : Env) where
    function_called : (x : Name) (es : Expressions) (s : Signature) (F : KnownFunction w x.text s) (vs : List Value) (v : Value) → AllTaken es vs
        → called g x.at (ToFunction s) vs ≡ Of v → IsTaken w names (Expression.Call x es) v
    function_called x es s F vs v h e =
        let z : (rs : List Region) × (arguments_fit g x.at s.regions s.parameters vs ≡ Of rs) × (call_entered g x.at s rs ≡ Of v) =
        after_is (arguments_fit g x.at s.regions s.parameters vs) (call_entered g x.at s) v e in
        let a = arguments_are g x.at s.regions s.parameters vs z.0 z.1 in
        let r : typed_result x.at z.0 s.result ≡ Of v = (unless_is _ (typed_result x.at z.0 s.result) v z.2).1 in
        let d : Valued v (renamed (argument z.0) F.gives) =
        value_of x.at (renamed (argument z.0) F.gives) v (subst (λ (o : Option StaticType). typed_result x.at z.0 o ≡ Of v) F.result r) in
        word_call (argument z.0) x es v F.gives F.not_made
        (words_taken g z.0 F.types es vs F.words
        (eqb-true _ _ (subst (λ (ps : List (Option StaticType)). nat_eq (length ps) (length vs) ≡ true) F.parameters a.count))
        (subst (λ (ps : List (Option StaticType)). AllConvert g z.0 ps vs) F.parameters a.convert) h) F.shape F.given d

    builtin_called : (x : Name) (es : Expressions) (n : ℕ) (ts : List StaticType) (vs : List Value) (v : Value) → Builtin x.text n
        → has_tag w.structs x.text ≡ false
        → builtin_parameters n ≡ map (λ (t : StaticType). Some t) ts → AreWords ts → AllTaken es vs → called g x.at (ToBuiltin n) vs ≡ Of v
        → IsTaken w names (Expression.Call x es) v
    builtin_called x es n ts vs v b k q i h e =
        let z : (rs : List Region) × (arguments_fit g x.at 0 (builtin_parameters n) vs ≡ Of rs) × (value x.at Int ≡ Of v) =
        after_is (arguments_fit g x.at 0 (builtin_parameters n) vs) (λ rs. value x.at Int) v e in
        let a = arguments_are g x.at 0 (builtin_parameters n) vs z.0 z.1 in
        word_call (argument z.0) x es v Int k
        (words_taken g z.0 ts es vs i
        (eqb-true _ _ (subst (λ (ps : List (Option StaticType)). nat_eq (length ps) (length vs) ≡ true) q a.count))
        (subst (λ (ps : List (Option StaticType)). AllConvert g z.0 ps vs) q a.convert) h) (builtin_shape w x.text n b) (tt, tt) (value_of x.at Int v z.2)

    struct_called : (x : Name) (es : Expressions) (t : Tag) (k : KnownTag w x.text t) (vs : List Value) (v : Value) → AllTaken es vs
        → called g x.at (ToStruct t) vs ≡ Of v → IsTaken w names (Expression.Call x es) v
    struct_called x es t k vs v h e =
        let z : (rs : List Region) × (arguments_fit g x.at t.regions (part_types t.parts) vs ≡ Of rs) × (value x.at (Struct t.text rs) ≡ Of v) =
        after_is (arguments_fit g x.at t.regions (part_types t.parts) vs) (λ rs. value x.at (Struct t.text rs)) v e in
        let a = arguments_are g x.at t.regions (part_types t.parts) vs z.0 z.1 in
        let q : part_types t.parts ≡ map (λ (t : StaticType). Some t) k.types = members_known t.parts (parts_of w.structs x.text) k.types k.members in
        let made : TakesMade w names (parts_of w.structs x.text) es =
        made_taken g z.0 t.parts (parts_of w.structs x.text) k.types es vs k.members k.known
        (eqb-true _ _ (subst (λ (ps : List (Option StaticType)). nat_eq (length ps) (length vs) ≡ true) q a.count))
        (subst (λ (ps : List (Option StaticType)). AllConvert g z.0 ps vs) q a.convert) h in
        let one : makes_struct w x.text ≡ true = makes_one w x.text k.not_read k.not_written k.there in
        let d : Valued v (Struct t.text z.0) = value_of x.at (Struct t.text z.0) v z.2 in
        record {
          known = subst (λ y. IsKnownValue w y) (sym d.type) (subst (λ (y : List ℕ). has_tag w.structs y ≡ true) (sym k.named) k.there);
          value = subst (λ y. TakenAs w names y (Expression.Call x es)) (sym d.type) (record {
            takes = (one, made);
            shape = struct_shape w x.text k.not_read k.not_written k.there ∙ ap (λ (y : List ℕ). StructShape y) (sym k.named);
          });
          run = subst (λ b. TakesCalled b (TakesWhole w names (Expression.Call x es)) (Takes w names (Expression.Call x es))) (sym one) (one, made);
          place = λ y. absurd (false≢true (sym (ap (λ (y : Rattle.source_typing.specs.Scope.Seat). is_place y) d.seat) ∙ y));
        }

    pub call_taken : (x : Name) (es : Expressions) (o : Option Entry) (t : Target) (vs : List Value) (v : Value)
        → ((e : Entry) → o ≡ Some e → KnownEntry w names x.text e) → target x.at o ≡ Of t → AllTaken es vs → called g x.at t vs ≡ Of v
        → IsTaken w names (Expression.Call x es) v
    call_taken x es None t vs v k q h e = absurd cc
    call_taken x es (Some (OfValue (Stored u r))) t vs v k q h e = absurd cc
    call_taken x es (Some (OfValue (Arrayed u r))) t vs v k q h e = absurd cc
    call_taken x es (Some (OfValue Counter)) t vs v k q h e = absurd cc
    call_taken x es (Some (OfValue (Unknown true))) t vs v k q h e = absurd cc
    call_taken x es (Some (OfValue (Unknown false))) t vs v k q h e = absurd cc
    call_taken x es (Some OfOther) t vs v k q h e = absurd cc
    call_taken x es (Some (OfTag u)) t vs v k q h e = of u.is_union refl (k (OfTag u) refl)
      where
        -- a union's name isn't called
        never : (b : Bool) → target_of_tag b u x.at ≡ Of t → b ≡ true → ⊥
        never true p z = no_kind u.sound x.at t p
        never false p z = cc

        of : (b : Bool) → u.is_union ≡ b → KnownKind w b x.text u → IsTaken w names (Expression.Call x es) v
        of true z k = absurd (never u.is_union q z)
        of false z k = struct_called x es u k vs v h (subst (λ (y : Target). called g x.at y vs ≡ Of v) (struct_is u.is_union u x.at t z q) e)
    call_taken x es (Some (OfFunction s)) t vs v k q h e =
        function_called x es s (k (OfFunction s) refl) vs v h (subst (λ (y : Target). called g x.at y vs ≡ Of v) (sound_is s.sound s t q) e)
    call_taken x es (Some (OfBuiltin n)) t vs v k q h e =
        by (k (OfBuiltin n) refl) (subst (λ (y : Target). called g x.at y vs ≡ Of v) (sym (of_is (ToBuiltin n) t q)) e)
      where
        by : Builtin x.text n × (has_tag w.structs x.text ≡ false) → called g x.at (ToBuiltin n) vs ≡ Of v → IsTaken w names (Expression.Call x es) v
        by (inl z, d) p =
            builtin_called x es n [] vs v (inl z) d (ap builtin_parameters z.1) tt h p
        by (inr z, d) p =
            builtin_called x es n (Int ∷ []) vs v (inr z) d (ap builtin_parameters z.2) (tt, tt) h p
