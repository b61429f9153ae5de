-- The reader of a function, from its parameters on, is exact.
use Rattle.std.proofs.Common.{◌≡◌, ℕ, Bool, false, List, [], ◌∷◌, Option, Some, None, refl, sym, ap, subst, ◌∙◌}
use Rattle.cyc_lexer.specs.declared.token.Sign.TheVariants as sign_of
use Rattle.cyc_lexer.specs.declared.token.TokenKind.{TokenKind}
use Rattle.cyc_lexer.specs.declared.token.TokenKind.TheVariants as kind
use Rattle.cyc_tree.proofs.PartNesting.{items_nesting}
use Rattle.cyc_tree.specs.Tree as tree
use Rattle.cyc_tree.specs.Tree.{Name, RegionName, TypeName, Member, Bound, Function, BlockItems, NoItems}
use Rattle.cyc_tree.specs.View.{OneItem, items_of}
use Rattle.source_grammar.specs.Phrases.{Tokens, SignAt}
use Rattle.source_grammar.specs.StatementGrammar.{AreItems}
use Rattle.source_grammar.specs.Grammar.{AreParameters, IsEffect, AreBounds, IsFunctionRest}
use Rattle.cyc_parser.specs.Tests.{is_sign}
use Rattle.cyc_parser.specs.ReadPrograms.{function_of}
use Rattle.cyc_parser.specs.Exact.{Exact, Anything, ends, Stops, IsDone, Then, Whole, Within}
use Rattle.cyc_parser.proofs.Exact.{done_exact, exact_as}
use Rattle.cyc_parser.proofs.exactness.Composed.{stops_at, then_exact, meets_exact, finish}
use Rattle.cyc_parser.proofs.exactness.Types.{sign_exact}
use Rattle.cyc_parser.proofs.exactness.Parameters.{no_parameters_end, parameters_exact}
use Rattle.cyc_parser.proofs.exactness.Effects.{effect_exact, bounds_on, bounds_exact}
use Rattle.cyc_parser.proofs.exactness.Statements.{AreItemsAt, goes_on_in_block, items_exact}

-- a block's items as a list
items_from : (x : BlockItems) → (is : List OneItem) × (x ≡ items_of is)
items_from NoItems = ([], refl)
items_from (tree.Declare d rest) = let r = items_from rest in (OneItem.Declare d ∷ r.0, ap (λ (x : BlockItems). tree.Declare d x) r.1)
items_from (tree.Execute s rest) = let r = items_from rest in (OneItem.Execute s ∷ r.0, ap (λ (x : BlockItems). tree.Execute s x) r.1)

-- ---- in stages

abbrev Body : ℕ → (List OneItem → ℕ → Function) → Bool → Function → Tokens → Tokens → Type 0
Body most make =
    Then (Whole (SignAt sign_of.RightParenthesis)) (λ _. Then (Whole (SignAt sign_of.LeftBrace)) (λ _. Then (AreItemsAt most) (λ is.
    Then (Whole (SignAt sign_of.RightBrace)) (λ end. IsDone (make is end)))))

abbrev Bounded : ℕ → (List Bound → List OneItem → ℕ → Function) → Bool → Function → Tokens → Tokens → Type 0
Bounded most make = Then (Whole AreBounds) (λ bs. Body most (make bs))

abbrev Effected : ℕ → (Option (List RegionName) → List Bound → List OneItem → ℕ → Function) → Bool → Function → Tokens → Tokens → Type 0
Effected most make = Then (Whole IsEffect) (λ e. Bounded most (make e))

abbrev pub make_function : TypeName → Name → List Member → Option (List RegionName) → List Bound → List OneItem → ℕ → Function
make_function result n ps e bs is end =
    record { result = result; name = n; parameters = ps; effect = e; bounds = bs; body = items_of is; end = end }

abbrev FunctionRead : ℕ → TypeName → Name → Bool → Function → Tokens → Tokens → Type 0
FunctionRead most result n =
    Then (Whole (SignAt sign_of.LeftParenthesis)) (λ _. Then (Whole AreParameters) (λ ps. Effected most (make_function result n ps)))

-- what stands behind a function's effect
pub bounded_begins : (most : ℕ) (test : TokenKind → Bool) → test (kind.Sign sign_of.Colon) ≡ false → test (kind.Sign sign_of.RightParenthesis) ≡ false
    → (make : List Bound → List OneItem → ℕ → Function) (b : Bool) (f : Function) (from to : Tokens) → Bounded most make b f from to → Stops test from
bounded_begins most test colon closes make b f from to w = go w.0 w.1 w.2 w.3
  where
    go : (bs : List Bound) (mid : Tokens) → AreBounds bs from mid → Body most (make bs) b f mid to → Stops test from
    go [] mid e v = stops_at test from _ _ (e ∙ v.2.1) closes
    go (x ∷ bs) mid v body = stops_at test from _ _ v.1.1.1 colon

-- what stands behind its parameters
pub effected_begins : (most : ℕ) (make : Option (List RegionName) → List Bound → List OneItem → ℕ → Function) (b : Bool) (f : Function) (from to : Tokens)
    → Effected most make b f from to → Stops no_parameters_end from
effected_begins most make b f from to w = go w.0 w.1 w.2 w.3
  where
    go : (e : Option (List RegionName)) (mid : Tokens) → IsEffect e from mid → Bounded most (make e) b f mid to → Stops no_parameters_end from
    go None mid e v = subst (Stops no_parameters_end) (sym e) (bounded_begins most no_parameters_end refl refl (make None) b f mid to v)
    go (Some rs) mid v bounded = stops_at no_parameters_end from _ _ v.3.1.1 refl

-- ---- the whole

-- with this result and name, from the parameters on
abbrev pub IsFunctionOf : ℕ → TypeName → Name → Bool → Function → Tokens → Tokens → Type 0
IsFunctionOf most result n b f from to = (f.result ≡ result) × (f.name ≡ n) × IsFunctionRest f from to × Within b most (items_nesting f.body)

function_into : (most : ℕ) (result : TypeName) (n : Name) (b : Bool) (f : Function) (from to : Tokens) → FunctionRead most result n b f from to
    → IsFunctionOf most result n b f from to
function_into most result n b f from to w =
    let ps = w.3 in let e = ps.3 in let bs = e.3 in let body = bs.3 in let is = body.3.3 in
    finish (λ f to. IsFunctionOf most result n b f from to) is.3.3 (
      refl,
      refl,
      (
        w.1,
        ps.1,
        e.1,
        bs.1,
        body.1,
        body.3.1,
        is.1,
        (w.0, w.2),
        ps.2,
        e.2,
        bs.2,
        (body.0, body.2),
        (body.3.0, body.3.2),
        is.2.0,
        is.3.2,
      ),
      is.2.1,
    )

pub function_same : (f : Function) (result : TypeName) (n : Name) (is : List OneItem) → f.result ≡ result → f.name ≡ n → f.body ≡ items_of is
    → f ≡ make_function result n f.parameters f.effect f.bounds is f.end
function_same f result n is er en eb =
    let make : TypeName → Name → BlockItems → Function = λ r x body.
    record { result = r; name = x; parameters = f.parameters; effect = f.effect; bounds = f.bounds; body = body; end = f.end } in
    ap (λ (r : TypeName). make r f.name f.body) er ∙ ap (λ (x : Name). make result x f.body) en ∙ ap (λ (body : BlockItems). make result n body) eb

pub function_back : (most : ℕ) (result : TypeName) (n : Name) (b : Bool) (f : Function) (from to : Tokens) → IsFunctionOf most result n b f from to
    → FunctionRead most result n b f from to
function_back most result n b f from to w =
    let v = w.2 in
    let i = items_from f.body in (
      v.7.0,
      v.0,
      v.7.1,
      (
        f.parameters,
        v.1,
        v.8,
        (
          f.effect,
          v.2,
          v.9,
          (
            f.bounds,
            v.3,
            v.10,
            (
              v.11.0,
              v.4,
              v.11.1,
              (
                v.12.0,
                v.5,
                v.12.1,
                (
                  i.0,
                  v.6,
                  (
                    subst (λ (x : BlockItems). AreItems x v.5 v.6) i.1 v.13,
                    subst
                        (λ (x : BlockItems). Within b most (items_nesting x)) i.1 w.3,
                  ),
                  (f.end, to, v.14, (function_same f result n i.0 w.0 w.1 i.1, refl)),
                ),
              ),
            ),
          ),
        ),
      ),
    )

pub function_exact : (most : ℕ) (result : TypeName) (n : Name) → Exact Anything (IsFunctionOf most result n) ends (function_of most result n)
unfolding function_of
function_exact most result n =
    exact_as Anything (FunctionRead most result n) ends _
    (then_exact _ _ (sign_exact sign_of.LeftParenthesis) _ ends _
    (λ _. meets_exact _ _ _ parameters_exact (λ ps. Effected most (make_function result n ps)) ends _ (λ ps.
    meets_exact _ _ _ effect_exact (λ e. Bounded most (make_function result n ps e)) ends _ (λ e.
    meets_exact _ _ _ bounds_exact (λ bs. Body most (make_function result n ps e bs)) ends _ (λ bs.
    then_exact _ _ (sign_exact sign_of.RightParenthesis) _ ends _ (λ _. then_exact _ _ (sign_exact sign_of.LeftBrace) _ ends _ (λ _.
    meets_exact _ _ _ (items_exact most) _ ends _ (λ is.
    then_exact _ _ (sign_exact sign_of.RightBrace) _ ends _ (λ end. done_exact (make_function result n ps e bs is end)))
    (λ b is f mid to w s. stops_at goes_on_in_block mid _ _ w.2.1 refl))))
    (λ b bs f mid to w s. stops_at bounds_on mid _ _ w.2.1 refl))
    (λ b e f mid to w s. bounded_begins most (is_sign sign_of.Semicolon) refl refl (make_function result n ps e) b f mid to w))
    (λ b ps f mid to w s. effected_begins most (make_function result n ps) b f mid to w)))
    (IsFunctionOf most result n) (function_into most result n) (function_back most result n)
