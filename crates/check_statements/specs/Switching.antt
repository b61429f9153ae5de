-- View of code: the clauses of a `switch`, in code and by the rules.
use Rattle.std.specs.Prelude.{Bool, List, Option, bytes_eq, false, is_none, nat_eq, nat_le, not, true, unwrap_or, ℕ, ◌&&◌, ◌||◌, ◌++◌, [], ◌∷◌}
use Rattle.indexmap.specs.IndexMap.{get_by}
use Rattle.cyc_tree.specs.Tree.{Case, Clauses, Default, MoreClauses, NoClauses, Pattern}
use Rattle.cyc_tree.specs.View.{OneClause}
use Rattle.source_typing.specs.Faults.{Fault, own_after, test, type_rule}
use Rattle.source_typing.specs.Scope.{Env}
use Rattle.source_typing.specs.Statements.{clause_names, clause_scope, items_faults}
use Rattle.source_typing.specs.Statements as rules
use Rattle.source_typing.specs.Tables.{Part, part_in}
use Rattle.source_typing.specs.Ways.{ways_of_items}
use Rattle.check_statements.specs.declared.name_times.NameTimes.{NameTimes}

-- whether a pattern is `default`
abbrev pub is_default : Pattern → Bool
is_default (Case f x) = false
is_default Default = true

-- whether a pattern names a member
abbrev pub names_part : Pattern → List ℕ → Bool
names_part (Case f x) member = bytes_eq f.text member
names_part Default member = false

-- how often a name was counted
abbrev pub times_of : NameTimes → List ℕ → ℕ
times_of times x = unwrap_or (get_by (λ key. bytes_eq x key.now) times.by_name) 0

-- each member so often once, or where there is a `default`, at most once
abbrev pub all_counted : (List ℕ → ℕ) → List Part → Bool → Bool
all_counted times [] has_default = true
all_counted times (p ∷ ps) has_default =
    nat_le (times p.name) 1 && (has_default || nat_eq (times p.name) 1) && all_counted times ps has_default

-- whether a pattern names a member that was counted at most once, or none of these members
abbrev pub is_once : (List ℕ → ℕ) → List Part → Pattern → Bool
is_once times ps (Case f x) = nat_le (times f.text) 1 || is_none (part_in ps f.text)
is_once times ps Default = true

-- each clause does
abbrev pub none_repeated : (List ℕ → ℕ) → List Part → Clauses → Bool
none_repeated times ps NoClauses = true
none_repeated times ps (MoreClauses at p body others) = is_once times ps p && none_repeated times ps others

-- the faults of one clause: those of its pattern and of its block, or else that its end is reached
abbrev pub clause_faults : Env → Bool → Option rules.Chosen → OneClause → List Fault
clause_faults g reached union c =
    own_after (test (not (reached && (ways_of_items c.body).falls)) type_rule c.at)
    (clause_names g union c.pattern ++ items_faults (clause_scope g union c.pattern) reached c.body)
