-- Steps that write, one after the other.
use Rattle.std.proofs.Common.{◌≡◌, ◌∙◌, ◌+◌, ℕ, sym, ap, subst, List, [], ◌++◌, length, map, append-nil}
use Rattle.cyc_core.specs.Trees.{statement_tree}
use Rattle.core_meaning.specs.Core.{Statement}
use Rattle.source_meaning.specs.Shapes.{Shape}
use Rattle.lower_checks.specs.Views.{shape_tree}
use Rattle.lower_checks.specs.Writing.{IsApart, IsBegun, IsEmitted, IsEmitting, IsEnded, IsLeft, IsSame, IsWritten, code_of, next_of, values_of}
use Rattle.lower_checks.specs.declared.body.Body.{Body}
use Rattle.lower_checks.proofs.Lists.{then_of}
use Rattle.lower_checks.proofs.Remaining.{behind}
use Rattle.lower_checks.proofs.Wholes.{grown}

-- two that write
pub write_write : (a b c : Body) (x y z : List Statement) (p q r : List Shape) → IsWritten a b x p → IsWritten b c y q → z ≡ x ++ y → r ≡ p ++ q
    → IsWritten a c z r
write_write a b c x y z p q r one two code_is values_are = record {
  sound = one.sound;
  code = then_of (code_of a) x (code_of b) y (code_of c) z one.code two.code code_is;
  values = then_of (values_of a) p (values_of b) q (values_of c) r one.values two.values values_are;
}

-- what emits writes no temporary object
pub write_emit : (a b c : Body) (x y z : List Statement) (p : List Shape) → IsWritten a b x p → IsEmitted b c y → z ≡ x ++ y → IsWritten a c z p
write_emit a b c x y z p one two code_is = record {
  sound = one.sound;
  code = then_of (code_of a) x (code_of b) y (code_of c) z one.code two.code code_is;
  values = ap (λ own. map shape_tree own.items) two.own ∙ one.values;
}

pub emit_write : (a b c : Body) (x y z : List Statement) (p : List Shape) → IsEmitted a b x → IsWritten b c y p → z ≡ x ++ y → IsWritten a c z p
emit_write a b c x y z p one two code_is = record {
  sound = one.sound;
  code = then_of (code_of a) x (code_of b) y (code_of c) z one.code two.code code_is;
  values = two.values ∙ ap (λ own. map shape_tree own.items ++ p) one.own;
}

-- the next temporary object's number
pub next_is : (a b : Body) (x : List Statement) (p : List Shape) → IsWritten a b x p → next_of b ≡ next_of a + length p
next_is a b x p is = grown shape_tree b.own.items a.own.items p is.values

pub same_write : (a b c : Body) (x : List Statement) (p : List Shape) → IsSame a b → IsWritten b c x p → IsWritten a c x p
same_write a b c x p one two = record {
  sound = one.sound;
  code = two.code ∙ ap (λ code. map statement_tree code.items ++ x) one.code;
  values = two.values ∙ ap (λ own. map shape_tree own.items ++ p) one.own;
}

-- a part that is written apart, and then goes into a statement
pub part_written :
    (e b x v f z : Body) (outer part first word : List Statement) (p : List Shape) (whole : List Statement → List Statement) → IsBegun e b
    → outer ≡ code_of e → IsWritten b x first p → IsEmitted x v word → IsEnded v f outer → part ≡ code_of v → IsEmitted f z (whole part)
    → IsWritten e z (whole (first ++ word)) p
part_written e b x v f z outer part first word p whole begun outer_is one two ended part_is done = record {
  sound = sym begun.failed ∙ one.sound;
  code = done.code ∙ ap (λ ss. ss ++ whole part) (ended.code ∙ outer_is)
      ∙ ap (λ ss. code_of e ++ whole ss) (part_is ∙ two.code ∙ ap (λ ss. ss ++ word) (one.code ∙ ap (λ ss. ss ++ first) begun.code));
  values = ap (λ own. map shape_tree own.items) (done.own ∙ ended.own ∙ two.own) ∙ one.values ∙ ap (λ own. map shape_tree own.items ++ p) begun.own;
}

-- what is written here is no longer left
pub left_more :
    (a e z : Body) (all here rest : List Statement) (every these others : List Shape) → IsLeft a e all (here ++ rest) every (these ++ others)
    → IsWritten e z here these → IsLeft a z all rest every others
left_more a e z all here rest every these others left is = record {
  sound = left.sound;
  written = behind (code_of e) here rest (code_of z) (code_of a ++ all) is.code left.written;
  values = behind (values_of e) these others (values_of z) (values_of a ++ every) is.values left.values;
}

-- nothing is left
pub none_left : (a b : Body) (all rest : List Statement) (every others : List Shape) → rest ≡ [] → others ≡ [] → IsLeft a b all rest every others
    → IsWritten a b all every
none_left a b all rest every others rest_is others_are left = record {
  sound = left.sound;
  code = sym (append-nil (code_of b)) ∙ ap (λ ss. code_of b ++ ss) (sym rest_is) ∙ left.written;
  values = sym (append-nil (values_of b)) ∙ ap (λ ss. values_of b ++ ss) (sym others_are) ∙ left.values;
}

pub same_same : (a b c : Body) → IsSame a b → IsSame b c → IsSame a c
same_same a b c one two = record {
  sound = one.sound;
  code = two.code ∙ one.code;
  own = two.own ∙ one.own;
}

pub emit_same : (a b c : Body) (x : List Statement) → IsEmitted a b x → IsSame b c → IsEmitted a c x
emit_same a b c x one two = record {
  sound = one.sound;
  code = ap (λ code. map statement_tree code.items) two.code ∙ one.code;
  own = two.own ∙ one.own;
}

pub write_same : (a b c : Body) (x : List Statement) (p : List Shape) → IsWritten a b x p → IsSame b c → IsWritten a c x p
write_same a b c x p one two = record {
  sound = one.sound;
  code = ap (λ code. map statement_tree code.items) two.code ∙ one.code;
  values = ap (λ own. map shape_tree own.items) two.own ∙ one.values;
}

-- the next temporary object's number is the same where nothing is appended, and where statements alone are
pub same_next : (a b : Body) → IsSame a b → next_of b ≡ next_of a
same_next a b one = ap (λ own. length own.items) one.own

pub emitted_next : (a b : Body) (x : List Statement) → IsEmitted a b x → next_of b ≡ next_of a
emitted_next a b x one = ap (λ own. length own.items) one.own

-- what is written from the next number on, behind what appends nothing
pub moved : (a b c : Body) (code : ℕ → List Statement) (p : List Shape) → IsSame a b → IsWritten b c (code (next_of b)) p → IsWritten a c (code (next_of a)) p
moved a b c code p one two =
    same_write a b c (code (next_of a)) p one (subst (λ n. IsWritten b c (code n) p) (same_next a b one) two)

-- ---- parts that are written apart

-- a part that is begun, written and ended
pub part_apart : (e b x f : Body) (outer first : List Statement) (p : List Shape) → IsBegun e b → outer ≡ code_of e → IsWritten b x first p
    → IsEnded x f outer → IsApart e f p
part_apart e b x f outer first p begun outer_is one ended = record {
  sound = sym begun.failed ∙ one.sound;
  code = ended.code ∙ outer_is;
  values = ap (λ own. map shape_tree own.items) ended.own ∙ one.values ∙ ap (λ own. map shape_tree own.items ++ p) begun.own;
}

-- and what it is, where its code begins from the next number on
pub part_is : (e b x : Body) (part : List Statement) (code : ℕ → List Statement) (p : List Shape) → IsBegun e b → IsWritten b x (code (next_of b)) p
    → part ≡ code_of x → part ≡ code (next_of e)
part_is e b x part code p begun one is =
    is ∙ one.code ∙ ap (λ ss. ss ++ code (next_of b)) begun.code ∙ ap code (ap (λ own. length own.items) begun.own)

pub write_apart : (a b c : Body) (x : List Statement) (p q r : List Shape) → IsWritten a b x p → IsApart b c q → r ≡ p ++ q → IsWritten a c x r
write_apart a b c x p q r one two values_are = record {
  sound = one.sound;
  code = two.code ∙ one.code;
  values = then_of (values_of a) p (values_of b) q (values_of c) r one.values two.values values_are;
}

pub apart_apart : (a b c : Body) (p q r : List Shape) → IsApart a b p → IsApart b c q → r ≡ p ++ q → IsApart a c r
apart_apart a b c p q r one two values_are = record {
  sound = one.sound;
  code = two.code ∙ one.code;
  values = then_of (values_of a) p (values_of b) q (values_of c) r one.values two.values values_are;
}

pub apart_emit : (a b c : Body) (x : List Statement) (p : List Shape) → IsApart a b p → IsEmitted b c x → IsWritten a c x p
apart_emit a b c x p one two = record {
  sound = one.sound;
  code = two.code ∙ ap (λ ss. ss ++ x) one.code;
  values = ap (λ own. map shape_tree own.items) two.own ∙ one.values;
}

pub apart_next : (a b : Body) (p : List Shape) → IsApart a b p → next_of b ≡ next_of a + length p
apart_next a b p is = grown shape_tree b.own.items a.own.items p is.values

-- a part that is emitted apart, and goes into a statement
pub part_emitted : (e b x f z : Body) (outer part first : List Statement) (whole : List Statement → List Statement) → IsBegun e b → outer ≡ code_of e
    → IsEmitted b x first → IsEnded x f outer → part ≡ code_of x → IsEmitted f z (whole part) → IsEmitted e z (whole first)
part_emitted e b x f z outer part first whole begun outer_is one ended part_is done = record {
  sound = sym begun.failed ∙ one.sound;
  code = done.code ∙ ap (λ ss. ss ++ whole part) (ended.code ∙ outer_is)
      ∙ ap (λ ss. code_of e ++ whole ss) (part_is ∙ one.code ∙ ap (λ ss. ss ++ first) begun.code);
  own = done.own ∙ ended.own ∙ one.own ∙ begun.own;
}

pub same_emit : (a b c : Body) (x : List Statement) → IsSame a b → IsEmitted b c x → IsEmitted a c x
same_emit a b c x one two = record {
  sound = one.sound;
  code = two.code ∙ ap (λ code. map statement_tree code.items ++ x) one.code;
  own = two.own ∙ one.own;
}

pub emit_emit : (a b c : Body) (x y z : List Statement) → IsEmitted a b x → IsEmitted b c y → z ≡ x ++ y → IsEmitted a c z
emit_emit a b c x y z one two code_is = record {
  sound = one.sound;
  code = then_of (code_of a) x (code_of b) y (code_of c) z one.code two.code code_is;
  own = two.own ∙ one.own;
}

-- what is emitted here is no longer left
pub emitting_more : (a b z : Body) (all here rest : List Statement) → IsEmitting a b all (here ++ rest) → IsEmitted b z here → IsEmitting a z all rest
emitting_more a b z all here rest left is = record {
  sound = left.sound;
  written = behind (code_of b) here rest (code_of z) (code_of a ++ all) is.code left.written;
  own = is.own ∙ left.own;
}
