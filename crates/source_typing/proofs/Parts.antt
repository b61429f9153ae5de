-- Parts of which two tests say the same.
use Rattle.std.proofs.Common.{◌≡◌, Bool, Option, Some, None, List, [], ◌∷◌, refl, ◌∙◌, ap}
use Rattle.std.specs.Prelude.{◌&&◌}
use Rattle.source_typing.specs.Tables.{Part, each_part, if_known}
use Rattle.source_typing.specs.Types.{StaticType}

pub each_as : (f g : StaticType → Bool) (ps : List Part) → ((t : StaticType) → f t ≡ g t) → each_part f ps ≡ each_part g ps
each_as f g [] same = refl
each_as f g (p ∷ ps) same = ap (λ b. b && each_part f ps) (by p.type) ∙ ap (λ b. if_known g p.type && b) (each_as f g ps same)
  where
    by : (o : Option StaticType) → if_known f o ≡ if_known g o
    by None = refl
    by (Some t) = same t
