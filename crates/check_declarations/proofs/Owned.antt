-- A declaration, apart from its local, leaves the locals as they are.
use Rattle.std.proofs.Common.{refl, ◌≡◌}
use Rattle.cyc_tree.specs.Tree as tree
use Rattle.source_typing.specs.Declarations.{opened_region, with_region}
use Rattle.source_typing.specs.Regions.{Region, Regions}
use Rattle.source_typing.specs.Scope.{Env}
use Rattle.source_typing.specs.Verdicts.{Faulty, Of, Unjudged, Verdict}
use Rattle.check_declarations.specs.Declaring.{opened_scope, own_scope}

region_locals : (r : tree.RegionName) (next : Regions → Regions) (g : Env) → (with_region r next g).locals ≡ g.locals
region_locals (tree.Named n) next g = refl
region_locals (tree.Heap at) next g = refl
region_locals (tree.Unique at) next g = refl

opened_locals : (g : Env) (v : Verdict Region) → (opened_scope g v).locals ≡ g.locals
opened_locals g (Of r) = refl
opened_locals g (Faulty f fs) = refl
opened_locals g Unjudged = refl

pub own_locals : (g : Env) (d : tree.Declaration) → (own_scope g d).locals ≡ g.locals
own_locals g (tree.Local t x i) = refl
own_locals g (tree.Region at r x) = region_locals r _ g
own_locals g (tree.Open at r x k) = opened_locals g (opened_region g r k)
own_locals g (tree.Alias at r t x p) = region_locals r _ g
own_locals g (tree.NewKey at r x) = region_locals r _ g
