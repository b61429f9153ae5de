-- The reader of a global or a function, from its name on, is exact.
use Rattle.std.proofs.Common.{◌≡◌, ℕ, Bool, true, false, List, [], ◌∷◌, refl, sym, ap, subst, ◌∙◌, inl, inr, arith}
use Rattle.cyc_lexer.specs.declared.token.Sign.TheVariants as sign_of
use Rattle.cyc_lexer.specs.declared.token.TokenKind.{TokenKind}
use Rattle.cyc_lexer.specs.declared.token.TokenKind.TheVariants as kind
use Rattle.cyc_tree.proofs.PartNesting.{item_nesting, items_nesting}
use Rattle.cyc_tree.specs.Tree.{Name, Pointer, TypeName, Initial, Given, Item, StructItem, UnionItem, GlobalItem, FunctionItem}
use Rattle.source_grammar.specs.Phrases.{Tokens, SignAt, IsSign, IsName, Each}
use Rattle.source_grammar.specs.TypeGrammar.{IsPointer, IsType}
use Rattle.source_grammar.specs.Grammar.{IsInitial, IsFunctionRest, IsItem}
use Rattle.cyc_parser.specs.Tests.{is_sign, begins_pointer}
use Rattle.cyc_parser.specs.Reader.{next_is}
use Rattle.cyc_parser.specs.ReadPrograms.{function_of, typed}
use Rattle.cyc_parser.specs.Exact.{Exact, Anything, ends, Stops, IsDone, Then, Either, Whole, Within}
use Rattle.cyc_parser.proofs.Exact.{done_exact, exact_as}
use Rattle.cyc_parser.proofs.exactness.Composed.{begins_with, begins_stops, stops_at, then_exact, meets_exact, either_exact, Made, image_exact, finish}
use Rattle.cyc_parser.proofs.exactness.Types.{sign_exact, name_exact}
use Rattle.cyc_parser.proofs.exactness.Pointers.{pointer_begins}
use Rattle.cyc_parser.proofs.exactness.Structures.{initial_on, initial_exact}
use Rattle.cyc_parser.proofs.exactness.Functions.{IsFunctionOf, function_exact}

-- an item within the nesting
abbrev pub IsItemAt : ℕ → Bool → Item → Tokens → Tokens → Type 0
IsItemAt most b i from to = IsItem i from to × Within b most (item_nesting i)

-- what doesn't nest
pub within_none : (most : ℕ) (b : Bool) → Within b most 0
within_none most true = omega arith
within_none most false = tt

-- a global or a function of this type, from its name on
abbrev pub IsTypedItem : ℕ → TypeName → Bool → Item → Tokens → Tokens → Type 0
IsTypedItem most t b (StructItem s) from to = ⊥
IsTypedItem most t b (UnionItem u) from to = ⊥
IsTypedItem most t b (GlobalItem g) from to =
    (g.of ≡ t) × (a : Tokens) × (c : Tokens) × IsName g.name from a × IsInitial g.initial a c × IsSign sign_of.Semicolon c to
IsTypedItem most t b (FunctionItem f) from to =
    (f.result ≡ t) × (a : Tokens) × IsName f.name from a × IsFunctionRest f a to × Within b most (items_nesting f.body)

abbrev IsFunctionItem : ℕ → TypeName → Name → Bool → Item → Tokens → Tokens → Type 0
IsFunctionItem most t n = Made (λ f. FunctionItem f) (IsFunctionOf most t n)

abbrev IsGlobalItem : TypeName → Name → Bool → Item → Tokens → Tokens → Type 0
IsGlobalItem t n =
    Then (Whole IsInitial) (λ i. Then (Whole (SignAt sign_of.Semicolon)) (λ _. IsDone (GlobalItem (record { of = t; name = n; initial = i }))))

abbrev TypedRead : ℕ → TypeName → Bool → Item → Tokens → Tokens → Type 0
TypedRead most t = Then (Whole IsName) (λ n. Either (IsFunctionItem most t n) (IsGlobalItem t n))

typed_into : (most : ℕ) (t : TypeName) (b : Bool) (i : Item) (from to : Tokens) → TypedRead most t b i from to → IsTypedItem most t b i from to
typed_into most t b i from to w = go w.0 w.1 w.2 w.3
  where
    go : (n : Name) (mid : Tokens) → IsName n from mid → Either (IsFunctionItem most t n) (IsGlobalItem t n) b i mid to
        → IsTypedItem most t b i from to
    go n mid named (inl w) =
        subst (λ (i : Item). IsTypedItem most t b i from to) (sym w.1)
        (w.2.0, mid, subst (λ (n : Name). IsName n from mid) (sym w.2.1) named, w.2.2, w.2.3)
    go n mid named (inr w) = finish (λ i to. IsTypedItem most t b i from to) w.3.3 (refl, mid, w.1, named, w.2, (w.3.0, w.3.2))

typed_back : (most : ℕ) (t : TypeName) (b : Bool) (i : Item) (from to : Tokens) → IsTypedItem most t b i from to → TypedRead most t b i from to
typed_back most t b (StructItem s) from to w = absurd w
typed_back most t b (UnionItem u) from to w = absurd w
typed_back most t b (GlobalItem g) from to w = (
  g.name,
  w.1,
  w.3,
  inr (
    g.initial,
    w.2,
    w.4,
    (
      w.5.0,
      to,
      w.5.1,
      (ap (λ (t : TypeName). GlobalItem (record { of = t; name = g.name; initial = g.initial })) w.0, refl),
    ),
  ),
)
typed_back most t b (FunctionItem f) from to w = (f.name, w.1, w.2, inl (f, refl, (w.0, refl, w.3, w.4)))

no_parenthesis : (t : TypeName) (n : Name) (b : Bool) (i : Item) (from to : Tokens) → IsGlobalItem t n b i from to → Stops (ends i) to
    → next_is (is_sign sign_of.LeftParenthesis) from ≡ false
no_parenthesis t n b i from to w s = go w.0 w.1 w.2 w.3.2
  where
    go : (x : Initial) (mid : Tokens) {at : ℕ} {rest : Tokens} → IsInitial x from mid → SignAt sign_of.Semicolon at mid rest
        → next_is (is_sign sign_of.LeftParenthesis) from ≡ false
    go Initial.Unset mid e k = stops_at (is_sign sign_of.LeftParenthesis) from _ _ (e ∙ k.1) refl
    go (Initial.Elements count) mid c k = stops_at (is_sign sign_of.LeftParenthesis) from _ _ c.4.1.1 refl
    go (Given constant) mid c k = stops_at (is_sign sign_of.LeftParenthesis) from _ _ c.1.1.1 refl

pub typed_exact : (most : ℕ) (t : TypeName) → Exact Anything (IsTypedItem most t) ends (typed most t)
unfolding typed
typed_exact most t =
    exact_as Anything (TypedRead most t) ends _
    (then_exact _ _ name_exact _ ends _ (λ n. either_exact (is_sign sign_of.LeftParenthesis) ends
    (IsFunctionItem most t n) _
    (image_exact (IsFunctionOf most t n) (λ k. false) (function_of most t n) (function_exact most t n) (λ f. FunctionItem f))
    (IsGlobalItem t n) _ (meets_exact _ _ _ initial_exact _ ends _ (λ i. then_exact _ _ (sign_exact sign_of.Semicolon) _ ends _ (λ _.
    done_exact (GlobalItem (record { of = t; name = n; initial = i }))))
    (λ b i x mid to w s. stops_at initial_on mid _ _ w.2.1 refl))
    (λ b i from to w. begins_with (is_sign sign_of.LeftParenthesis) from _ _ w.2.2.7.1.1 refl) (no_parenthesis t n)))
    (IsTypedItem most t) (typed_into most t) (typed_back most t)

-- it begins with its name
pub typed_begins : (most : ℕ) (test : TokenKind → Bool) → test kind.Identifier ≡ false → (t : TypeName) (b : Bool) (i : Item) (from to : Tokens)
    → IsTypedItem most t b i from to
    → Stops test from
typed_begins most test h t b (StructItem s) from to w = absurd w
typed_begins most test h t b (UnionItem u) from to w = absurd w
typed_begins most test h t b (GlobalItem g) from to w = stops_at test from _ _ w.3 h
typed_begins most test h t b (FunctionItem f) from to w = stops_at test from _ _ w.2 h

-- behind pointers
pub pointed_begins : (most : ℕ) (test : TokenKind → Bool) → test kind.Identifier ≡ false
    → ((k : TokenKind) → begins_pointer k ≡ true → test k ≡ false)
    → (ps : List Pointer) (t : TypeName) (b : Bool) (i : Item) (from mid to : Tokens) → Each IsPointer ps from mid → IsTypedItem most t b i mid to
    → Stops test from
pointed_begins most test h apart [] t b i from mid to e w = subst (Stops test) (sym e) (typed_begins most test h t b i mid to w)
pointed_begins most test h apart (p ∷ ps) t b i from mid to v w = begins_stops begins_pointer test apart from (pointer_begins p from v.0 v.1)

-- with its type it is an item
pub typed_is : (most : ℕ) (t : TypeName) (b : Bool) (i : Item) (from mid to : Tokens) → IsType t from mid → IsTypedItem most t b i mid to
    → IsItemAt most b i from to
typed_is most t b (StructItem s) from mid to v w = absurd w
typed_is most t b (UnionItem u) from mid to v w = absurd w
typed_is most t b (GlobalItem g) from mid to v w =
    ((mid, w.1, w.2, subst (λ (t : TypeName). IsType t from mid) (sym w.0) v, w.3, w.4, w.5), within_none most b)
typed_is most t b (FunctionItem f) from mid to v w = ((mid, w.1, subst (λ (t : TypeName). IsType t from mid) (sym w.0) v, w.2, w.3), w.4)
