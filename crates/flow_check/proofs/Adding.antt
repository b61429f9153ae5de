-- What a declaration adds to its block: its local, or none where it is a second one of its name.
use Rattle.std.proofs.Common.{Bool, List, Option, Some, [], ap, arith, false, length, refl, subst, sym, take, true, ℕ, ◌+◌, ◌-◌, ◌<◌, ◌≤◌, ◌∙◌, ◌∷◌, ◌≡◌}
use Rattle.std.proofs.lemmas.Slice.Eq.{bytes_eq-Decides}
use Rattle.std.specs.Prelude.{bytes_eq, if◌then◌else◌}
use Rattle.cyc_tree.specs.Tree as tree
use Rattle.flow_summaries.specs.Exits.{Exits, entered}
use Rattle.flow_summaries.specs.Statements.{exits_of_declared, exits_within}
use Rattle.source_typing.specs.Declarations.{declare}
use Rattle.source_typing.specs.Left.{added_by, begins_as, states_of}
use Rattle.source_typing.specs.Scope.{Env, Local, block_entered, is_second, next_region, with_local}
use Rattle.source_typing.specs.Statements.{Chosen, bound_what, clause_scope, parts_of_chosen}
use Rattle.source_typing.specs.States.{States}
use Rattle.source_typing.specs.Tables.{What, part_in}
use Rattle.check_scopes.specs.Locals.{Known, find_what}
use Rattle.check_scopes.specs.Matching.{AreLocals}
use Rattle.check_scopes.specs.Means.{WhatIs}
use Rattle.check_scopes.specs.declared.locals.What as code
use Rattle.check_declarations.proofs.Declaring.{both_scopes}
use Rattle.check_declarations.proofs.Owned.{own_locals}
use Rattle.check_declarations.specs.Declaring.{own_scope, own_what}
use Rattle.flow_check.specs.Declarations.{Adds, Nothing, One, initial_before, loan_before}

-- a declaration, by its initializer and its loan
pub declared_exits : (g inside : Env) (d : tree.Declaration) (rest : Exits)
    → initial_before g d (loan_before g d (exits_within g inside rest)) ≡ exits_of_declared g inside d rest
declared_exits g inside (tree.Local t x i) rest = refl
declared_exits g inside (tree.Region at r x) rest = refl
declared_exits g inside (tree.Open at r x k) rest = refl
declared_exits g inside (tree.Alias at r t x p) rest = refl
declared_exits g inside (tree.NewKey at r x) rest = refl

-- ---- which local is added

-- a local comes into scope, or none where it is a second one
pub adds_local : (x : tree.Name) (w : What) (g : Env) → Adds x.text g.locals (with_local x w g).locals
adds_local x w g = by (is_second g.locals g.block x.text)
  where
    by : (b : Bool) → Adds x.text g.locals (if b then g else record g { locals = record { name = x.text; what = w; block = g.block } ∷ g.locals }).locals
    by true = Nothing
    by false = One (record { name = x.text; what = w; block = g.block }) refl

pub adds_declared : (g : Env) (d : tree.Declaration) (x : tree.Name) → x ≡ tree.local_of d
    → Adds x.text g.locals (declare g d).scope.locals
adds_declared g d x named =
    subst (λ (e : Env). Adds x.text g.locals e.locals) (both_scopes g d x named)
    (subst (λ ls. Adds x.text ls (with_local x (own_what g d) (own_scope g d)).locals) (own_locals g d) (adds_local x (own_what g d) (own_scope g d)))

-- the name of a clause
pub adds_bound : (g : Env) (c : Option Chosen) (f x : tree.Name) → Adds x.text g.locals (clause_scope g c (tree.Case f x)).locals
adds_bound g c f x = adds_local x (bound_what (next_region g) c (part_in (parts_of_chosen g c) f.text)) (block_entered g)

-- ---- how it begins

-- the states of what was added
abbrev pub added_states : Env → List Local → List Local → States
added_states g ls ms = states_of g (take (length ms - length ls) ms)

pub none_added : (g : Env) (ls : List Local) → added_states g ls ls ≡ []
none_added g ls = let e : length ls - length ls ≡ 0 = omega arith in ap (λ n. states_of g (take n ls)) e

pub one_added : (g : Env) (l : Local) (ls : List Local) → added_states g ls (l ∷ ls) ≡ begins_as g l.what ∷ []
one_added g l ls = let e : length (l ∷ ls) - length ls ≡ 1 = omega arith in ap (λ n. states_of g (take n (l ∷ ls))) e

-- where no more locals are in scope than before, none was added
pub none_more : (g : Env) (x : List ℕ) (ls ms : List Local) → Adds x ls ms → length ms ≤ length ls → [] ≡ added_states g ls ms
none_more g x ls ms Nothing h = sym (none_added g ls)
none_more g x ls ms (One l e) h = absurd (grind (arith, h))

-- What a name is in code and by the rules, and the states that it adds.
pub record Begins (g : Env) (meant : Option code.What) (states : States) : Type 0 where
  pub what : code.What
  pub rules : What
  pub is : WhatIs rules what
  pub found : meant ≡ Some what
  pub begins : begins_as g rules ∷ [] ≡ states

pub one_more : (g : Env) (x : List ℕ) (ls ms : List Local) (ks : List Known) → Adds x ls ms → length ls < length ms → AreLocals ks ms
    → Begins g (find_what ks x) (added_states g ls ms)
one_more g x ls ms ks Nothing h same = absurd (grind (arith, h))
one_more g x ls ms [] (One l e) h same = absurd same
one_more g x ls ms (k ∷ ks) (One l e) h ((named, is), more) =
    let found : bytes_eq k.name x ≡ true = (bytes_eq-Decides k.name x).1 (named ∙ e) in
    record {
      what = k.what;
      rules = l.what;
      is = is;
      found = ap (λ b. if b then Some k.what else find_what ks x) found;
      begins = sym (one_added g l ls);
    }

-- ---- the rest of its block

with_more : (x : List ℕ) (ls ms : List Local) (g : Env) → Adds x ls ms → length (added_states g ls ms) + length ls ≡ length ms
with_more x ls ms g Nothing = let n : ℕ = length ls in ap (λ (ss : States). length ss + n) (none_added g ls) ∙ omega arith
with_more x ls ms g (One l e) = let n : ℕ = length ls in ap (λ (ss : States). length ss + n) (one_added g l ls) ∙ omega arith

-- it is entered by how many locals are around, and by what begins
pub entered_within : (outer inside : Env) (x : List ℕ) (around : ℕ) (added : States) (rest : Exits) → Adds x outer.locals inside.locals
    → around ≡ length outer.locals → added ≡ added_by outer inside → entered around (length added + around) added rest ≡ exits_within outer inside rest
entered_within outer inside x around added rest adds count begins =
    ap (λ n. entered n (length added + n) added rest) count
    ∙ ap (λ (ss : States). entered (length outer.locals) (length ss + length outer.locals) ss rest) begins
    ∙ ap (λ n. entered (length outer.locals) n (added_by outer inside) rest) (with_more x outer.locals inside.locals inside adds)
