-- Believed: the regions in scope, and how they are left: freed, or closed where keys opened them.
use Rattle.std.specs.Prelude.{ℕ, zero, suc, Bool, true, false, List, [], ◌∷◌}
use Rattle.cyc_tree.specs.Tree as tree
use Rattle.cyc_tree.specs.Tree.{Declaration}
use Rattle.core_meaning.specs.Core as core
use Rattle.core_meaning.specs.Core.{Do, KeyClose, Operation, RegionFree}

-- how many regions are in scope behind a declaration, by how many were before
abbrev pub regions_behind : Declaration → ℕ → ℕ
regions_behind (tree.Local of name initializer) n = n
regions_behind (tree.Region at region handle) n = suc n
regions_behind (tree.Open at region handle key) n = suc n
regions_behind (tree.Alias at region of alias pointer) n = n
regions_behind (tree.NewKey at region key) n = n

-- whether a key opened each of them, the last one first
abbrev pub opened_behind : Declaration → List Bool → List Bool
opened_behind (tree.Local of name initializer) opened = opened
opened_behind (tree.Region at region handle) opened = false ∷ opened
opened_behind (tree.Open at region handle key) opened = true ∷ opened
opened_behind (tree.Alias at region of alias pointer) opened = opened
opened_behind (tree.NewKey at region key) opened = opened

-- a region that a key opened is closed, and any other one is freed
abbrev pub left_by : (opened : Bool) → ℕ → Operation
left_by true t = KeyClose t
left_by false t = RegionFree t

-- Of the `all` regions in scope the `count` innermost are left, each before those around it. Their handles, or keys, are in the temporaries from 0 on, the
-- outermost first.
abbrev pub leaving_code : (opened : List Bool) → (all count : ℕ) → List core.Statement
leaving_code opened all zero = []
leaving_code [] all (suc count) = []
leaving_code (o ∷ os) zero (suc count) = []
leaving_code (o ∷ os) (suc all) (suc count) = Do (left_by o all) ∷ leaving_code os all count

-- What the code of a statement needs of the regions around it: how many of its function are in scope, whose handles are in the first temporaries, how many of
-- these were opened within what a `break` leaves, the innermost loop or `switch`, and how many within the innermost loop, whose turn a `continue` ends. Its own
-- values come into the temporaries behind.
pub record RegionsAround : Type 0 where
  pub all : ℕ
  pub broken : ℕ
  pub continued : ℕ
  -- whether a key opened each of all, the last one first
  pub opened : List Bool

-- no region is in scope
abbrev pub no_regions : RegionsAround
no_regions = record { all = 0; broken = 0; continued = 0; opened = [] }

-- within a loop
abbrev pub in_loop : RegionsAround → RegionsAround
in_loop h = record { all = h.all; broken = 0; continued = 0; opened = h.opened }

-- within a `switch`
abbrev pub in_switch : RegionsAround → RegionsAround
in_switch h = record h { broken = 0 }

-- behind a declaration
abbrev pub regions_with : Declaration → RegionsAround → RegionsAround
regions_with d h = record {
  all = regions_behind d h.all;
  broken = regions_behind d h.broken;
  continued = regions_behind d h.continued;
  opened = opened_behind d h.opened;
}
