-- The types of parameters, one more at a time.
use Rattle.std.proofs.Common.{◌≡◌, ℕ, ◌+◌, ◌<◌, Option}
use Rattle.std.proofs.Common.{List, [], ◌∷◌, sym, ◌∙◌, ap, take, get_or, length, map}
use Rattle.std.specs.Prelude.{◌++◌, option_map}
use Rattle.std.proofs.lemmas.List.{map-append, take_more}
use Rattle.cyc_types.specs.Types.{static_type}
use Rattle.cyc_types.specs.declared.ctype.CType.{CType}
use Rattle.source_typing.specs.Types.{StaticType}
use Rattle.check_heads.specs.Bodies.{types_of}
use Rattle.check_heads.specs.Heads.{known_static}
use Rattle.check_heads.specs.declared.head.Parameter.{Parameter}

pub types_more : (ps : List Parameter) (i : ℕ) (p : Parameter) → i < length ps → p ≡ get_or ps i p
    → types_of (take (i + 1) ps) ≡ types_of (take i ps) ++ known_static p.of ∷ []
types_more ps i p h is =
    ap (λ l. types_of l) (take_more ps i p h)
    ∙ map-append (λ (q : Parameter). known_static q.of) (take i ps) (get_or ps i p ∷ [])
    ∙ ap (λ (q : Parameter). types_of (take i ps) ++ known_static q.of ∷ []) (sym is)

-- one more type
pub more_types : (ts : List (Option CType)) (o : Option CType) (known : List (Option StaticType)) (k : Option StaticType)
    → map (option_map static_type) ts ≡ known → option_map static_type o ≡ k → map (option_map static_type) (ts ++ o ∷ []) ≡ known ++ k ∷ []
more_types ts o known k e is =
    map-append (option_map static_type) ts (o ∷ []) ∙ ap (λ l. l ++ option_map static_type o ∷ []) e ∙ ap (λ p. known ++ p ∷ []) is
