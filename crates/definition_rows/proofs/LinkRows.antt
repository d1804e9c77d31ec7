-- The rows and laws of sets.
use Rattle.std.proofs.Common.{◌≡◌, refl, Option, Some, None, [], ◌∷◌}
use Rattle.std.specs.Option.{option_or}
use Rattle.component_package.specs.link.Link.{link_cause, room_cause, symbols_cause, relocations_cause, duplicate_cause, rooms_of}
use Rattle.definition_rows.specs.LinkRows.{LayoutRows, CausesInOrder, CauseRows, LateCauses, exporter}

pub layout_rows : LayoutRows
layout_rows = record { targets_of_first = refl; targets_of_second = refl; others = refl; symbols = refl; bytes = refl; fields = refl }

-- where the former is this, so is the first of both
here : {X : Type 0} (a b : Option X) (x : X) → a ≡ Some x → option_or a b ≡ Some x
here None b x e = absurd cc
here (Some y) b x e = e

-- where the former is none, the first of both is the latter
there : {X : Type 0} (a b c : Option X) → a ≡ None → b ≡ c → option_or a b ≡ c
there None b c e f = f
there (Some y) b c e f = absurd cc

pub causes_in_order : CausesInOrder
unfolding link_cause
causes_in_order = record {
  room = λ set c is. here (room_cause (rooms_of set)) _ c is;
  symbols = λ set c room is. there (room_cause (rooms_of set)) _ _ room (here (symbols_cause set) _ c is);
  relocations = λ set c room symbols is. there (room_cause (rooms_of set)) _ _ room (there (symbols_cause set) _ _ symbols (here (relocations_cause set) _ c is));
  duplicate = λ set c room symbols relocations is.
      there (room_cause (rooms_of set)) _ _ room (there (symbols_cause set) _ _ symbols (there (relocations_cause set) _ _ relocations (here (duplicate_cause set) _ c is)));
  sites = λ set c room symbols relocations duplicate is.
      there (room_cause (rooms_of set)) _ _ room (there (symbols_cause set) _ _ symbols (there (relocations_cause set) _ _ relocations (there (duplicate_cause set) _ _ duplicate is)));
}

pub cause_rows : CauseRows
cause_rows = record {
  flash = causes_in_order.room _ _ refl;
  relocations = causes_in_order.relocations (exporter 1 4097 ∷ exporter 2 4096 ∷ []) _ refl refl refl;
}

pub late_causes : LateCauses
late_causes = record {
  none = tt;
  undefined = λ k r s. tt;
  range = λ k r c. tt;
  flash = λ t no. no;
  ram = λ t no. no;
  symbols = λ n no. no;
  relocations = λ n no. no;
  duplicate = λ s i j no. no;
}
