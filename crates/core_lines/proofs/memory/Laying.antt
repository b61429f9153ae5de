-- The locals of a block get their homes, or their bytes, in order, in a zone of the frame that nothing else has.
use Rattle.std.specs.Prelude.{nat_eq, nat_lt, length, ◌/◌, ◌%◌, slice_get, if◌then◌else◌}
use Rattle.std.proofs.Common.{◌≡◌, ℕ, zero, suc, ◌+◌, ◌*◌, ◌^◌, ◌≤◌, ◌<◌, Bool, true, false, List, [], ◌∷◌, Option, Some, None, refl, sym, ap, ◌∙◌, subst}
use Rattle.std.proofs.Common.{arith}
use Rattle.std.proofs.lemmas.Bool.{eq-eqb, and_from}
use Rattle.std.proofs.lemmas.Option.{same_Some, none-some}
use Rattle.core_meaning.specs.Operations.{too_far}
use Rattle.core_meaning.specs.Memory.{PartShape, shape_in, blank_of, Frame, Part, Memory, is_live, blanks, with_object}
use Rattle.core_meaning.specs.Core.{Local}
use Rattle.core_meaning.specs.Meaning.{with_objects}
use Rattle.core_lines.specs.Machines.{Store}
use Rattle.rv32_machine.specs.Arrays.{longest_stack}
use Rattle.rv32_machine.specs.State.{Areas}
use Rattle.core_lines.specs.Lies.{HomeLies, Shows, local_at, Maps, Extends, Zone, Activation, Fits, Known, Stacked}
use Rattle.core_lines.specs.Selected.{first_of, rest_of, shrink, shrunk}
use Rattle.core_lines.proofs.homes.Homes.{Spares, spares_standing, spares_then, home_spared}
use Rattle.core_lines.proofs.memory.Sparing.{object_spares, bare_spares}
use Rattle.core_lines.proofs.memory.Bare.{bare_fits, bare_known}
use Rattle.core_lines.proofs.homes.Saving.{home_first, home_rest}
use Rattle.core_lines.proofs.memory.Relations.{as_home, home_of}
use Rattle.core_lines.proofs.memory.Fitting.{extends_self, extends_on}
pub use Rattle.core_lines.proofs.memory.Placing.{LaidOut, laid_high, slots_above}
use Rattle.core_lines.proofs.memory.Placing.{raised_fits, maps, laid_fits, laid_known, laid_stacked, laid_extends}

-- ---- all of them

-- what stands, with a zone for a block's locals, of which some have homes
pub record IsLaid (n : Areas) (m : Maps) (before : Memory) (a : Activation) (fs : List Activation) (mem : Memory) (b : ℕ → ℕ) (st : Store)
    (sp k low high : ℕ) (zs : List Zone) (os hs : List ℕ) (many count : ℕ) : Type 0 where
  pub maps : Maps
  pub extends : Extends m maps
  pub end : ℕ
  pub ends : end ≡ high
  pub fits : Fits n maps (record a { zones = record { region = k; low = low; high = end } ∷ zs } ∷ fs) mem b st
  pub known : Known maps mem st
  pub stacked : Stacked n sp (record a { zones = record { region = k; low = low; high = end } ∷ zs } ∷ fs)
  pub based : (o x : ℕ) → slice_get os o ≡ Some x → home_of hs o ≡ None → maps.base (Frame k) (count + o) ≡ Some (a.at + x)
  pub homes : (o r value : ℕ) → home_of hs o ≡ Some r → o < many → HomeLies maps mem k (count + o) value
  pub spares : Spares m before maps mem

-- a local that has a home is small
abbrev pub AreTiny : List Local → List ℕ → Type 0
AreTiny [] hs = Unit {0}
AreTiny (l ∷ ls) hs =
    (0 < first_of hs → (c j : ℕ) (p : Part) → blanks l.layout l.count c j ≡ Some p → p.offset < too_far) × AreTiny ls (rest_of hs)

object_live : (mem : Memory) (k : ℕ) (o : ℕ → ℕ → Option Part) → is_live (mem.standing (Frame k)) ≡ true → is_live
    ((with_object mem (Frame k) o).standing (Frame k)) ≡ true
object_live mem k o live = live

module _ (n : Areas) (few : n.statics ≤ 2 ^ 20) (short : n.stack ≤ longest_stack)
    (a : Activation) (fs : List Activation) (b : ℕ → ℕ) (st : Store) (sp k low high : ℕ) (zs : List Zone)
    (room : high ≤ a.bytes) where
  abbrev zone : ℕ → Zone
  zone end = record { region = k; low = low; high = end }

  abbrev with_zone : ℕ → Activation
  with_zone end = record a { zones = zone end ∷ zs }

  -- what is so once the others are laid
  abbrev Laid_on : List Local → List ℕ → List ℕ → ℕ → ℕ → Type 0
  Laid_on ls hs os start count =
      (m : Maps) (mem : Memory) → LaidOut (shrunk ls hs) os start high → mem.objects (Frame k) ≡ count
      → is_live (mem.standing (Frame k)) ≡ true → Stacked n sp (with_zone start ∷ fs) → Fits n m (with_zone start ∷ fs) mem b st → Known m mem st
      → IsLaid n m mem a fs (with_objects (Frame k) ls mem) b st sp k low high zs os hs (length ls) count

  lay_one : (h : ℕ) (l : Local) (ls : List Local) (hs os : List ℕ) (o start count : ℕ) (m : Maps) (mem : Memory) → first_of hs ≡ h
      → (0 < h → (c j : ℕ) (p : Part) → blanks l.layout l.count c j ≡ Some p → p.offset < too_far)
      → LaidOut (shrink h l ∷ shrunk ls (rest_of hs)) (o ∷ os) start high → mem.objects (Frame k) ≡ count
      → is_live (mem.standing (Frame k)) ≡ true → Stacked n sp (with_zone start ∷ fs) → Fits n m (with_zone start ∷ fs) mem b st → Known m mem st
      → ((at : ℕ) → Laid_on ls (rest_of hs) os at (count + 1))
      → IsLaid n m mem a fs (with_objects (Frame k) (l ∷ ls) mem) b st sp k low high zs (o ∷ os) hs (suc (length ls)) count
  lay_one zero l ls hs os o start count m mem first tiny laid is live stacked f known next =
      let bytes = l.count * l.layout.bytes in
      let object = blanks l.layout l.count in
      let mem1 = with_object mem (Frame k) object in
      let upto = laid_high (shrunk ls (rest_of hs)) os (o + bytes) high laid.3 in
      let inside_frame : o + bytes ≤ a.bytes = omega (arith, upto, room) in
      let m1 = maps n few short m (with_zone start) fs (zone start) zs refl k refl mem b st sp stacked f known object bytes o laid.2 laid.1 laid.0
      inside_frame live in
      let f1 = laid_fits n few short m (with_zone start) fs (zone start) zs refl k refl mem b st sp stacked f known object bytes o laid.2 laid.1 laid.0
      inside_frame live in
      let k1 = laid_known n few short m (with_zone start) fs (zone start) zs refl k refl mem b st sp stacked f known object bytes o laid.2 laid.1 laid.0
      inside_frame live in
      let s1 = laid_stacked n few short m (with_zone start) fs (zone start) zs refl k refl mem b st sp stacked f known object bytes o laid.2 laid.1 laid.0
      inside_frame live in
      let e1 = laid_extends n few short m (with_zone start) fs (zone start) zs refl k refl mem b st sp stacked f known object bytes o laid.2 laid.1 laid.0
      inside_frame live in
      let objects : mem1.objects (Frame k) ≡ count + 1 = ap (λ c. if c then mem.objects (Frame k) + 1 else mem.objects (Frame k)) (eq-eqb k k refl) ∙ ap
      (λ c. c + 1) is in
      let rest = next (o + bytes) m1 mem1 laid.3 objects live s1 f1 k1 in
      let here : m1.base (Frame k) (count + 0) ≡ Some (a.at + o) =
      ap (λ c. if c then Some (a.at + o) else m.base (Frame k) (count + 0))
      (and_from (nat_eq k k) (nat_eq (count + 0) (mem.objects (Frame k))) (eq-eqb k k refl) (eq-eqb (count + 0) (mem.objects (Frame k)) (omega (arith, is)))) in
      record {
        maps = rest.maps;
        extends = extends_on m m1 rest.maps e1 rest.extends;
        end = rest.end;
        ends = rest.ends;
        fits = rest.fits;
        known = rest.known;
        stacked = rest.stacked;
        based = λ i x e none. based i x e none here rest.extends rest.based;
        homes = λ i r value e less. homes rest.maps (with_objects (Frame k) ls mem1) i r value e less rest.homes;
        spares = spares_then m mem m1 mem1 rest.maps (with_objects (Frame k) ls mem1) (extends_on m m1 rest.maps e1 rest.extends)
            (object_spares m mem (Frame k) object (a.at + o) e1) rest.spares;
      }
    where
      based : {m1 m2 : Maps} (i x : ℕ) → slice_get (o ∷ os) i ≡ Some x → home_of hs i ≡ None → m1.base (Frame k) (count + 0) ≡ Some (a.at + o)
          → Extends m1 m2
          → ((j y : ℕ) → slice_get os j ≡ Some y → home_of (rest_of hs) j ≡ None → m2.base (Frame k) (count + 1 + j) ≡ Some (a.at + y))
          → m2.base (Frame k) (count + i) ≡ Some (a.at + x)
      based {m1} {m2} zero x e none here ext rest = ext.base (Frame k) (count + 0) (a.at + x) (here ∙ ap (λ q. Some (a.at + q)) (same_Some o x e))
      based {m1} {m2} (suc i) x e none here ext rest =
          let same : count + 1 + i ≡ count + suc i = omega arith in
          subst (λ q. m2.base (Frame k) q ≡ Some (a.at + x)) same (rest i x e (sym (home_rest hs i) ∙ none))

      homes : (m2 : Maps) (mem2 : Memory) (i r value : ℕ) → home_of hs i ≡ Some r → i < suc (length ls)
          → ((j q v : ℕ) → home_of (rest_of hs) j ≡ Some q → j < length ls → HomeLies m2 mem2 k (count + 1 + j) v) → HomeLies m2 mem2 k (count + i) value
      homes m2 mem2 zero r value e less rest = absurd (none-some r (sym (home_first hs ∙ ap as_home first) ∙ e))
      homes m2 mem2 (suc i) r value e less rest =
          let same : count + 1 + i ≡ count + suc i = omega arith in
          subst (λ q. HomeLies m2 mem2 k q value) same (rest i r value (sym (home_rest hs i) ∙ e) (omega (arith, less)))
  lay_one (suc h) l ls hs os o start count m mem first tiny laid is live stacked f known next =
      let object = blanks l.layout l.count in
      let nothing = blanks l.layout 0 in
      let bytes = 0 * l.layout.bytes in
      let mem1 = with_object mem (Frame k) object in
      let upto = laid_high (shrunk ls (rest_of hs)) os (o + bytes) high laid.3 in
      let inside_frame : o + bytes ≤ a.bytes = omega (arith, upto, room) in
      let near = tiny (omega arith) in
      let f0 = raised_fits n few short m (with_zone start) fs (zone start) zs refl k refl mem b st sp stacked f known nothing bytes o laid.2 laid.1 laid.0
      inside_frame live in
      let s1 = laid_stacked n few short m (with_zone start) fs (zone start) zs refl k refl mem b st sp stacked f known nothing bytes o laid.2 laid.1 laid.0
      inside_frame live in
      let f1 = bare_fits n m (with_zone (o + bytes) ∷ fs) mem b st k object known live near f0 in
      let k1 = bare_known n m (with_zone (o + bytes) ∷ fs) mem b st k object known live near in
      let objects : mem1.objects (Frame k) ≡ count + 1 = ap (λ c. if c then mem.objects (Frame k) + 1 else mem.objects (Frame k)) (eq-eqb k k refl) ∙ ap
      (λ c. c + 1) is in
      let rest = next (o + bytes) m mem1 laid.3 objects live s1 f1 k1 in
      let new : (value : ℕ) → HomeLies m mem1 k (count + 0) value = λ value. record {
        unbased = known.unmade (Frame k) (count + 0) (omega (arith, is));
        made = omega (arith, objects);
        shows = λ p e. blank_shown m p value (ap (λ c. if c then object 0 0 else mem.parts (local_at k (count + 0)) 0)
            (sym (and_from (nat_eq k k) (nat_eq (count + 0) (mem.objects (Frame k))) (eq-eqb k k refl)
            (eq-eqb (count + 0) (mem.objects (Frame k)) (omega (arith, is))))) ∙ e);
      } in
      record {
        maps = rest.maps;
        extends = rest.extends;
        end = rest.end;
        ends = rest.ends;
        fits = rest.fits;
        known = rest.known;
        stacked = rest.stacked;
        based = λ i x e none. based rest.maps i x e none rest.based;
        homes = λ i r value e less. homes rest.maps (with_objects (Frame k) ls mem1) i r value e less
            (home_spared m mem1 rest.maps (with_objects (Frame k) ls mem1) k (count + 0) value rest.spares (new value)) rest.homes;
        spares = spares_then m mem m mem1 rest.maps (with_objects (Frame k) ls mem1) rest.extends (bare_spares m mem (Frame k) object) rest.spares;
      }
    where
      blank_shown : (m : Maps) (p : Part) (value : ℕ) → blanks l.layout l.count 0 0 ≡ Some p → Shows m p.content value
      blank_shown m p value e = if_split_blank (nat_lt (0 / length l.layout.cells) l.count)
          (shape_in (slice_get l.layout.cells (0 % length l.layout.cells)) 0) e
        where
          if_split_blank : (c : Bool) (s : Option PartShape)
              → (if c then blank_of (0 / length l.layout.cells * l.layout.bytes) s else None) ≡ Some p → Shows m p.content value
          if_split_blank true (Some s) e = subst (λ (q : Part). Shows m q.content value) (same_Some _ p e) tt
          if_split_blank true None e = absurd (none-some p e)
          if_split_blank false s e = absurd (none-some p e)

      based : (m2 : Maps) (i x : ℕ) → slice_get (o ∷ os) i ≡ Some x → home_of hs i ≡ None
          → ((j y : ℕ) → slice_get os j ≡ Some y → home_of (rest_of hs) j ≡ None → m2.base (Frame k) (count + 1 + j) ≡ Some (a.at + y))
          → m2.base (Frame k) (count + i) ≡ Some (a.at + x)
      based m2 zero x e none rest = absurd (none-some (suc h) (sym none ∙ home_first hs ∙ ap as_home first))
      based m2 (suc i) x e none rest =
          let same : count + 1 + i ≡ count + suc i = omega arith in
          subst (λ q. m2.base (Frame k) q ≡ Some (a.at + x)) same (rest i x e (sym (home_rest hs i) ∙ none))

      homes : (m2 : Maps) (mem2 : Memory) (i r value : ℕ) → home_of hs i ≡ Some r → i < suc (length ls) → HomeLies m2 mem2 k (count + 0) value
          → ((j q v : ℕ) → home_of (rest_of hs) j ≡ Some q → j < length ls → HomeLies m2 mem2 k (count + 1 + j) v) → HomeLies m2 mem2 k (count + i) value
      homes m2 mem2 zero r value e less here rest = here
      homes m2 mem2 (suc i) r value e less here rest =
          let same : count + 1 + i ≡ count + suc i = omega arith in
          subst (λ q. HomeLies m2 mem2 k q value) same (rest i r value (sym (home_rest hs i) ∙ e) (omega (arith, less)))

  pub lays : (ls : List Local) (hs os : List ℕ) (start count : ℕ) (m : Maps) (mem : Memory) → AreTiny ls hs → LaidOut (shrunk ls hs) os start high
      → mem.objects (Frame k) ≡ count
      → is_live (mem.standing (Frame k)) ≡ true → Stacked n sp (with_zone start ∷ fs) → Fits n m (with_zone start ∷ fs) mem b st → Known m mem st
      → IsLaid n m mem a fs (with_objects (Frame k) ls mem) b st sp k low high zs os hs (length ls) count
  lays [] hs [] start count m mem tiny laid is live stacked f known = record {
    maps = m;
    extends = extends_self m;
    end = start;
    ends = laid;
    fits = f;
    known = known;
    stacked = stacked;
    based = λ o x e none. absurd (none-some x e);
    homes = λ o r value e less. absurd (omega (arith, less));
    spares = spares_standing m mem mem refl refl;
  }
  lays [] hs (o ∷ os) start count m mem tiny laid is live stacked f known = absurd laid
  lays (l ∷ ls) hs [] start count m mem tiny laid is live stacked f known = absurd laid
  lays (l ∷ ls) hs (o ∷ os) start count m mem tiny laid is live stacked f known =
      lay_one (first_of hs) l ls hs os o start count m mem refl tiny.0 laid is live stacked f known
      (λ at m1 mem1 laid1 is1 live1 stacked1 f1 known1. lays ls (rest_of hs) os at (count + 1) m1 mem1 tiny.1 laid1 is1 live1 stacked1 f1 known1)
