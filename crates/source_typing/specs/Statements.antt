-- Believed: how statements are judged.
use Rattle.std.specs.Prelude.{Bool, List, None, Option, Some, bytes_eq, false, is_some, nat_eq, nat_le, not, true, ℕ, ◌+◌, ◌&&◌, ◌||◌, [], ◌∷◌, ◌++◌}
use Rattle.cyc_tree.specs.Places.{expression_place}
use Rattle.cyc_tree.specs.Tree.{BlockItems, Case, Clauses, Declare, Default, Execute, Expression, MoreClauses, NoClauses, NoItems, Statement}
use Rattle.source_typing.specs.Conversions.{converts}
use Rattle.source_typing.specs.Declarations.{declare, operand}
use Rattle.source_typing.specs.Exchanges.{acts, exchanged}
use Rattle.source_typing.specs.Expressions.{judge}
use Rattle.source_typing.specs.Faults.{Fault, fault, name_rule, own_after, test, type_rule}
use Rattle.source_typing.specs.Regions.{Region}
use Rattle.source_typing.specs.Scope.{Env, Nowhere, Seat, Value, block_entered, next_region, with_local}
use Rattle.source_typing.specs.Tables.{Part, Stored, Unknown, What, argument, part_in, parts_in}
use Rattle.source_typing.specs.Types.{StaticType, Union, Void, is_key, is_testable, is_unique, renamed}
use Rattle.source_typing.specs.Verdicts.{Faulty, Of, Unjudged, Verdict, after, both, faults_of, if_fits, refuse}
use Rattle.source_typing.specs.Ways.{ways_of, ways_of_items}
use Rattle.cyc_tree.specs.Tree as tree

-- A condition takes an integer or a pointer, else Type at it.
abbrev pub condition : ℕ → Value → Verdict Value
condition at v = if_fits (is_testable v.type) at v

-- A result is given exactly where the function isn't `void`, else Type at `return`; it converts to the function's type.
abbrev pub returned : Env → ℕ → Option StaticType → Option (Verdict Value) → List Fault
returned g at None None = []
returned g at (Some Void) None = []
returned g at (Some t) None = fault type_rule at ∷ []
returned g at t (Some (Faulty f fs)) = f ∷ fs
returned g at None (Some v) = []
returned g at (Some Void) (Some v) = fault type_rule at ∷ []
returned g at (Some t) (Some (Of v)) = converts g v t
returned g at (Some t) (Some v) = []

-- ---- `switch`

-- the union of a `switch`
pub record Chosen : Type 0 where
  pub tag : List ℕ
  pub regions : List Region

abbrev pub chosen_of : StaticType → Seat → Option Chosen
chosen_of t Nowhere = None
chosen_of (Union tag rs) s = Some (record { tag = tag; regions = rs })
chosen_of t s = None

abbrev pub chosen : Verdict Value → Option Chosen
chosen (Of v) = chosen_of v.type v.seat
chosen (Faulty f fs) = None
chosen Unjudged = None

abbrev pub parts_of_chosen : Env → Option Chosen → List Part
parts_of_chosen g None = []
parts_of_chosen g (Some c) = parts_in g.tables c.tag

abbrev pub part_what : Region → List Region → Option StaticType → What
part_what r rs None = Unknown true
part_what r rs (Some t) = Stored (renamed (argument rs) t) r

-- the name of a clause stands for a copy of the member
abbrev pub bound_what : Region → Option Chosen → Option Part → What
bound_what r (Some c) (Some p) = part_what r c.regions p.type
bound_what r c p = Unknown true

-- A clause is a block, with its name.
abbrev pub clause_scope : Env → Option Chosen → tree.Pattern → Env
clause_scope g c Default = block_entered g
clause_scope g c (Case f x) = with_local x (bound_what (next_region g) c (part_in (parts_of_chosen g c) f.text)) (block_entered g)

-- An unknown member is Name at it.
abbrev pub clause_names : Env → Option Chosen → tree.Pattern → List Fault
clause_names g None p = []
clause_names g c Default = []
clause_names g c (Case f x) = test (is_some (part_in (parts_of_chosen g c) f.text)) name_rule f.at

abbrev pub one_if : Bool → ℕ
one_if true = 1
one_if false = 0

-- how often a member, and `default`, stands in the clauses
abbrev pub named_times : List ℕ → Clauses → ℕ
named_times x NoClauses = 0
named_times x (MoreClauses at (Case f y) body others) = one_if (bytes_eq f.text x) + named_times x others
named_times x (MoreClauses at Default body others) = named_times x others

abbrev pub defaults : Clauses → ℕ
defaults NoClauses = 0
defaults (MoreClauses at (Case f y) body others) = defaults others
defaults (MoreClauses at Default body others) = 1 + defaults others

-- each member once, or where there is a `default`, at most once
abbrev pub all_named : List Part → Clauses → Bool → Bool
all_named [] cs has_default = true
all_named (p ∷ ps) cs has_default =
    nat_le (named_times p.name cs) 1 && (has_default || nat_eq (named_times p.name cs) 1) && all_named ps cs has_default

abbrev pub clauses_fit : Env → Chosen → Clauses → Bool
clauses_fit g c cs = nat_le (defaults cs) 1 && all_named (parts_of_chosen g (Some c)) cs (nat_eq (defaults cs) 1)

-- `switch` takes a union place, and clauses that name each member once or have one `default`; else Type at `switch`.
abbrev pub switched_on : Env → ℕ → Clauses → Value → Option Chosen → Verdict Value
switched_on g at cs v None = refuse type_rule at
switched_on g at cs v (Some c) = if_fits (clauses_fit g c cs) at v

abbrev pub switched : Env → ℕ → Clauses → Value → Verdict Value
switched g at cs v = switched_on g at cs v (chosen (Of v))

-- ---- all of them

abbrev pub in_a_loop : Env → Env
in_a_loop g = record g { in_loop = true }

abbrev pub in_a_switch : Env → Env
in_a_switch g = record g { in_switch = true }

-- The condition of an `if` or a `while`; its fault stands at the condition.
abbrev pub condition_faults : Env → Expression → List Fault
condition_faults g e = faults_of (after (judge g e) (condition (expression_place e)))

-- The Boolean tells whether the start is reachable. A clause whose end is reachable is Type at its `case` or `default`. `break` needs a loop or `switch`
-- around it,
-- `continue` a loop. `ufree` takes a unique pointer and `free_ukey` a key, else Type at the operand's name.
abbrev mutual
  pub statement_faults : Env → Bool → Statement → List Fault
  statement_faults g reached (Statement.Empty at) = []
  statement_faults g reached (Statement.Block at items) = items_faults (block_entered g) reached items
  statement_faults g reached (Statement.Run e) = faults_of (judge g e)
  statement_faults g reached (Statement.Exchange a b) = faults_of (both (judge g a) (judge g b) (exchanged (acts a ++ acts b)))
  statement_faults g reached (Statement.If at e body) = condition_faults g e ++ statement_faults g reached body
  statement_faults g reached (Statement.IfElse at e body otherwise) =
      condition_faults g e ++ statement_faults g reached body ++ statement_faults g reached otherwise
  statement_faults g reached (Statement.While at e body) = condition_faults g e ++ statement_faults (in_a_loop g) reached body
  statement_faults g reached (Statement.Switch at e cs) =
      own_after (faults_of (after (judge g e) (switched g at cs)))
      (faults_of (judge g e) ++ clauses_faults (in_a_switch g) reached (chosen (judge g e)) cs)
  statement_faults g reached (Statement.Break at) = test (g.in_loop || g.in_switch) type_rule at
  statement_faults g reached (Statement.Continue at) = test g.in_loop type_rule at
  statement_faults g reached (Statement.Return at None) = returned g at g.result None
  statement_faults g reached (Statement.Return at (Some e)) = returned g at g.result (Some (judge g e))
  statement_faults g reached (Statement.FreeUnique at p) = faults_of (operand g p is_unique)
  statement_faults g reached (Statement.FreeKey at k) = faults_of (operand g k is_key)

  pub items_faults : Env → Bool → BlockItems → List Fault
  items_faults g reached NoItems = []
  items_faults g reached (Declare d others) = (declare g d).faults ++ items_faults (declare g d).scope reached others
  items_faults g reached (Execute s others) = statement_faults g reached s ++ items_faults g (reached && (ways_of s).falls) others

  pub clauses_faults : Env → Bool → Option Chosen → Clauses → List Fault
  clauses_faults g reached c NoClauses = []
  clauses_faults g reached c (MoreClauses at pattern body others) =
      own_after (test (not (reached && (ways_of_items body).falls)) type_rule at)
      (clause_names g c pattern ++ items_faults (clause_scope g c pattern) reached body)
      ++ clauses_faults g reached c others
