use Rattle.std.proofs.Common.{rules}
use Rattle.cyc_arena.proofs.Along.{stores_along}
use Rattle.cyc_arena.proofs.Bytes.{store_in}
use Rattle.cyc_arena.proofs.plain.PlainStoreBlockStore.store8.Goals as goal

pub returns-then-place-len-clause-bytes : goal.returns-then-place-len-clause-bytes
returns-then-place-len-clause-bytes c =
    stores_along c.args.at c.args.byte _ _ _ c.self.view_is (store_in _ c.args.at c.args.byte c.self.invariant (search rules) (search rules))
