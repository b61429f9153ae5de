-- No statement, or several, do more than raise an exception.
use Rattle.std.proofs.Common.{◌≡◌, ℕ, Bool, true, false, List, [], ◌∷◌, ◌++◌, length, refl, sym, ap, ◌∙◌}
use Rattle.std.proofs.lemmas.Bool.{and_parts}
use Rattle.std.proofs.lemmas.List.{append-nil}
use Rattle.core_meaning.specs.Core.{Statement, Statements, Do, If, While, Block, Leave, Break, Continue, Call, Return, Raise, NoStatements, MoreStatements}
use Rattle.cyc_core.specs.declared.statement.Statement as code
use Rattle.cyc_core.specs.Trees.{body_tree}
use Rattle.core_lines.specs.Held.{Holding, raises, raises_only}
use Rattle.core_lines.specs.LocalPlaces.{names_after_all}
use Rattle.core_lines.specs.Saved.{saves_in, saves_of}

pub several : (ss : List code.Statement) → (length ss ≡ 1 → ⊥) → false ≡ raises_only (body_tree ss)
several [] other = refl
several (s ∷ []) other = absurd (other refl)
several (s ∷ t ∷ ss) other = refl

-- what only raises an exception has no results
module _ (homes : List (List ℕ)) (statics : List ℕ) (hs : List Holding) (after out again : List Bool) where
  mutual
    saves_none : (names : List ℕ) (s : Statement) → raises s ≡ true → saves_in homes statics names hs after out again s ≡ []
    saves_none names (Do operation) is = absurd (cc is)
    saves_none names (If t these those) is =
        let both = and_parts (raises_only these) (raises_only those) is in
        λ i. saves_none_all names these both.0 i ++ saves_none_all (names_after_all these names) those both.1 i
    saves_none names (While test t body) is = absurd (cc is)
    saves_none names (Block locals body) is = absurd (cc is)
    saves_none names (Leave body) is = absurd (cc is)
    saves_none names Break is = absurd (cc is)
    saves_none names Continue is = absurd (cc is)
    saves_none names (Call results f arguments) is = absurd (cc is)
    saves_none names (Return values) is = absurd (cc is)
    saves_none names (Raise kind) is = refl

    pub saves_none_all : (names : List ℕ) (ss : Statements) → raises_only ss ≡ true → saves_of homes statics names hs after out again ss ≡ []
    saves_none_all names NoStatements is = absurd (cc is)
    saves_none_all names (MoreStatements s NoStatements) is = ap (λ bs. bs ++ []) (saves_none names s is)
    saves_none_all names (MoreStatements s (MoreStatements s' ss)) is = absurd (cc is)

  -- so the results of such a choice are those of its first way
  pub check_saves : (names behind : List ℕ) (these those : Statements) → raises_only those ≡ true
      → saves_of homes statics names hs after out again these
      ≡ saves_of homes statics names hs after out again these ++ saves_of homes statics behind hs after out again those
  check_saves names behind these those is =
      let one = saves_of homes statics names hs after out again these in
      sym (append-nil one) ∙ ap (λ bs. one ++ bs) (sym (saves_none_all behind those is))
