-- A local of a block: the rules add its state, and drop it on each way out.
use Rattle.std.proofs.Common.{◌≡◌, ℕ, suc, Option, Some, None, List, [], ◌∷◌, ◌++◌, refl, ◌∙◌, ap, subst, arith}
use Rattle.std.specs.Prelude.{length, take, drop, option_map, ◌-◌}
use Rattle.cyc_tree.specs.Tree as tree
use Rattle.source_meaning.specs.Memory.{Region, Memory}
use Rattle.source_meaning.specs.Steps.{Entity, Scope, Flow, Falls, Breaks, Continues, Returns}
use Rattle.source_meaning.specs.Places.{with_binding}
use Rattle.source_typing.specs.Left.{Left, left, on_ways, dropped, begins_as, states_of, entering}
use Rattle.source_typing.specs.Scope.{Env, Local}
use Rattle.source_typing.specs.States.{States}
use Rattle.source_typing.specs.Tables.{What}
use Rattle.type_proof.specs.Flat.{Tables}
use Rattle.type_proof.specs.Judged.{named}
use Rattle.type_proof.proofs.invariant.Invariant.{RunType, Ghost}
use Rattle.type_proof.proofs.invariant.Names.{NameOf}
use Rattle.type_proof.proofs.invariant.Standing.{Standing}
use Rattle.type_proof.proofs.statements.Flows.{WayStands, WaysStand}

-- one more local in a scope
pub entering_one : (g y : Env) (l : Local) → y.locals ≡ l ∷ g.locals → (rest : States → Left) (s : States) → entering g y rest s
    ≡ on_ways (dropped 1) (rest (begins_as y l.what ∷ s))
entering_one g y l e rest s =
    ap (λ (ls : List Local). on_ways (dropped (length (states_of y (take (length ls - length g.locals) ls))))
    (rest (states_of y (take (length ls - length g.locals) ls) ++ s))) e
    ∙ ap (λ (n : ℕ). on_ways (dropped (length (states_of y (take n (l ∷ g.locals))))) (rest (states_of y (take n (l ∷ g.locals)) ++ s)))
    (less (length g.locals))
  where
    less : (n : ℕ) → suc n - n ≡ 1
    less n = omega arith

-- no more locals in a scope
pub entering_none : (g y : Env) → y.locals ≡ g.locals → (rest : States → Left) (s : States) → entering g y rest s ≡ rest s
entering_none g y e rest s =
    ap (λ (ls : List Local). on_ways (dropped (length (states_of y (take (length ls - length g.locals) ls))))
    (rest (states_of y (take (length ls - length g.locals) ls) ++ s))) e
    ∙ (ap (λ (n : ℕ). on_ways (dropped (length (states_of y (take n g.locals)))) (rest (states_of y (take n g.locals) ++ s))) (less (length g.locals))
    ∙ itself (rest s))
  where
    less : (n : ℕ) → n - n ≡ 0
    less n = omega arith

    same : (o : Option States) → option_map (dropped 0) o ≡ o
    same None = refl
    same (Some t) = refl

    itself : (l : Left) → on_ways (dropped 0) l ≡ l
    itself l =
        ap (λ (o : Option States). left o (option_map (dropped 0) l.breaks) (option_map (dropped 0) l.continues) l.faults) (same l.falls)
        ∙ (ap (λ (o : Option States). left l.falls o (option_map (dropped 0) l.continues) l.faults) (same l.breaks)
        ∙ ap (λ (o : Option States). left l.falls l.breaks o l.faults) (same l.continues))

module _ (d : Tables) (gives : RunType) (g : Env) (scope : Scope) (f : NameOf → Region) (x : tree.Name) (v : What) (e : Entity) where
  -- it goes out of scope
  way_dropped : (o : Option States) (w : Ghost) (m : Memory) → WayStands d (named g x v) (with_binding scope x.text e) f o w m
      → WayStands d g scope f (option_map (dropped 1) o) w m
  way_dropped None w m h = absurd (let y : None ≡ Some h.0 = h.1 in cc)
  way_dropped (Some s) w m h = (
    drop 1 s,
    refl,
    by s (subst (λ (u : States). Standing d (named g x v) (with_binding scope x.text e) f u w m)
        (let y : Some s ≡ Some h.0 = h.1 in let q : h.0 ≡ s = cc in q) h.2),
  )
    where
      by : (u : States) → Standing d (named g x v) (with_binding scope x.text e) f u w m → Standing d g scope f (drop 1 u) w m
      by [] st = absurd st
      by (a ∷ u) st = st.1

  pub ways_dropped : (l : Left) (flow : Flow) (w : Ghost) (m : Memory) → WaysStand d gives (named g x v) (with_binding scope x.text e) f l flow w m
      → WaysStand d gives g scope f (on_ways (dropped 1) l) flow w m
  ways_dropped l Falls w m h = way_dropped l.falls w m h
  ways_dropped l Breaks w m h = (way_dropped l.breaks w m h.0, h.1)
  ways_dropped l Continues w m h = (way_dropped l.continues w m h.0, h.1)
  ways_dropped l (Returns vs) w m h = h
