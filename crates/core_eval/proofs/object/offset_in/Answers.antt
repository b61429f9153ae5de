use Rattle.std.proofs.Common.{◌≤◌, arith}
use Rattle.std.proofs.lemmas.Nat.{mul-le}
use Rattle.core_eval.proofs.object.offset_in.Goals as goal

pub overflow_add-result : goal.overflow_add-result
overflow_add-result c =
    let first : c.from.result ≤ 4294967295 = omega arith in
    let second : c.from-2.result ≤ 4294967295 = omega arith in
    let third : c.from-3.result ≤ 4294967295 = omega arith in
    let product = mul-le c.from.result c.from-2.result 4294967295 4294967295 first second in
    omega (arith, product, third)
