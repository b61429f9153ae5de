-- Operands with links, operands or suffixes behind them, where there are such, are one expression.
use Rattle.std.proofs.Common.{◌≡◌, false, true, ◌==◌, List, [], ◌∷◌, map, refl, sym, ap, ◌∙◌}
use Rattle.std.specs.Vec.{vec_len}
use Rattle.std.specs.declared.boxed.Box.{Box}
use Rattle.std.specs.declared.vec.Vec.{Vec}
use Rattle.std.specs.declared.alloc.Global.{Global}
use Rattle.cyc_tree.specs.declared.expression.Expression as code
use Rattle.cyc_tree.specs.declared.expression.Expression.TheVariants as form
use Rattle.cyc_tree.specs.declared.expression.Link as code_link
use Rattle.cyc_tree.specs.declared.expression.Suffix as code_suffix
use Rattle.cyc_tree.specs.Tree.{Expression, Chain, AllOf, AnyOf, Suffixed}
use Rattle.cyc_tree.specs.View.{OneSuffix, expression_tree, link_tree, suffix_tree, expressions_of, links_of, suffixes_of}
use Rattle.cyc_tree.proofs.Forms.{chain_tree, all_of_tree, any_of_tree, suffixed_tree}
use Rattle.cyc_parser.specs.Parts.{chained}
use Rattle.cyc_parser.specs.ReadExpressions.{all_of, any_of, suffixed}
use Rattle.cyc_parser.proofs.Vectors.{has_items, has_none}

-- ---- links

some_links : (first : Expression) (ls : List code_link.Link) → (ls ≡ [] → ⊥)
    → Chain first (links_of (map link_tree ls)) ≡ chained first (links_of (map link_tree ls))
some_links first [] some = absurd (some refl)
some_links first (l ∷ ls) some = refl

pub is_chained : (box : Box code.Expression Global) (links kept : Vec code_link.Link Global) (first : code.Expression) → box.value ≡ first
    → kept.items ≡ links.items → false ≡ (vec_len links == 0)
    → expression_tree (form.Chain box kept) ≡ chained (expression_tree first) (links_of (map link_tree links.items))
is_chained box links kept first same all some =
    chain_tree box kept ∙ ap (λ (e : code.Expression). Chain (expression_tree e) (links_of (map link_tree kept.items))) same
    ∙ ap (λ ls. Chain (expression_tree first) (links_of (map link_tree ls))) all ∙ some_links (expression_tree first) links.items (has_items links some)

-- ---- operands of `&&` and `||`

some_all : (first : Expression) (es : List Expression) → (es ≡ [] → ⊥) → AllOf first (expressions_of es) ≡ all_of first es
some_all first [] some = absurd (some refl)
some_all first (e ∷ es) some = refl

some_any : (first : Expression) (es : List Expression) → (es ≡ [] → ⊥) → AnyOf first (expressions_of es) ≡ any_of first es
some_any first [] some = absurd (some refl)
some_any first (e ∷ es) some = refl

-- a list whose image has no item has none
no_image : {X A : Type 0} (view : X → A) (xs : List X) → (xs ≡ [] → ⊥) → map view xs ≡ [] → ⊥
no_image view [] some none = some refl
no_image view (x ∷ xs) some none = cc

pub is_all_of : (box : Box code.Expression Global) (others : Vec code.Expression Global) (first : code.Expression) → box.value ≡ first
    → false ≡ (vec_len others == 0)
    → all_of (expression_tree first) (map expression_tree others.items) ≡ expression_tree (form.AllOf box others)
is_all_of box others first same some =
    sym (all_of_tree box others ∙ ap (λ (e : code.Expression). AllOf (expression_tree e) (expressions_of (map expression_tree others.items))) same
    ∙ some_all (expression_tree first) (map expression_tree others.items) (no_image expression_tree others.items (has_items others some)))

pub is_any_of : (box : Box code.Expression Global) (others : Vec code.Expression Global) (first : code.Expression) → box.value ≡ first
    → false ≡ (vec_len others == 0)
    → any_of (expression_tree first) (map expression_tree others.items) ≡ expression_tree (form.AnyOf box others)
is_any_of box others first same some =
    sym (any_of_tree box others ∙ ap (λ (e : code.Expression). AnyOf (expression_tree e) (expressions_of (map expression_tree others.items))) same
    ∙ some_any (expression_tree first) (map expression_tree others.items) (no_image expression_tree others.items (has_items others some)))

pub is_one_of_all : (others : Vec code.Expression Global) (first : code.Expression) → true ≡ (vec_len others == 0)
    → all_of (expression_tree first) (map expression_tree others.items) ≡ expression_tree first
is_one_of_all others first none = ap (λ (es : List code.Expression). all_of (expression_tree first) (map expression_tree es)) (has_none others none)

pub is_one_of_any : (others : Vec code.Expression Global) (first : code.Expression) → true ≡ (vec_len others == 0)
    → any_of (expression_tree first) (map expression_tree others.items) ≡ expression_tree first
is_one_of_any others first none = ap (λ (es : List code.Expression). any_of (expression_tree first) (map expression_tree es)) (has_none others none)

-- ---- suffixes

some_suffixes : (first : Expression) (ss : List OneSuffix) → (ss ≡ [] → ⊥) → Suffixed first (suffixes_of ss) ≡ suffixed first (suffixes_of ss)
some_suffixes first [] some = absurd (some refl)
some_suffixes first (OneSuffix.Index e ∷ ss) some = refl
some_suffixes first (OneSuffix.Dot n ∷ ss) some = refl
some_suffixes first (OneSuffix.Arrow n ∷ ss) some = refl

pub is_suffixed : (box : Box code.Expression Global) (others : Vec code_suffix.Suffix Global) (first : code.Expression) → box.value ≡ first
    → false ≡ (vec_len others == 0)
    → suffixed (expression_tree first) (suffixes_of (map suffix_tree others.items)) ≡ expression_tree (form.Suffixed box others)
is_suffixed box others first same some =
    sym (suffixed_tree box others ∙ ap (λ (e : code.Expression). Suffixed (expression_tree e) (suffixes_of (map suffix_tree others.items))) same
    ∙ some_suffixes (expression_tree first) (map suffix_tree others.items) (no_image suffix_tree others.items (has_items others some)))
