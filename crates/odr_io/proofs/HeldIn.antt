-- The files that a map's entries hold, read and written through the map.
use Rattle.std.proofs.Common.{◌≡◌, ℕ, List, [], ◌∷◌, Bool, true, false, cond, Option, Some, refl, sym, ap, ◌∙◌, map, string_bytes, String, Vec}
use Rattle.std.specs.declared.alloc.Global.{Global}
use Rattle.std.specs.BTreeMap as tree
use Rattle.std.specs.BTreeMap.{BTreeMap, get_by_text, is_at}
use Rattle.std.specs.Map.{lookup}
use Rattle.std.specs.Cmp.{eq_by_cmp_equiv}
use Rattle.std.specs.Cmp.Lexicographic.{slice_cmp, nat_list_cmp_total}
use Rattle.std.specs.FinMap.{find, get-from_entries, get-insert, same_map, nat_cmp-IsAntisymmetric, slice_cmp-IsAntisymmetric}
use Rattle.std.specs.Option.{option_map}
use Rattle.std.specs.Ordering.{is_eq, nat_cmp}
use Rattle.std.specs.Str.{bytes_eq}
use Rattle.std.specs.String.{string_cmp}
use Rattle.std.proofs.lemmas.Map.Text.{is_eq-slice_cmp, btree_map_updates_text}
use Rattle.odr_io.specs.Outside.{held_at, holding}
use Rattle.odr_io.specs.FileMap.{held_in}

abbrev Entries : Type 0
Entries = List (String Global × Vec ℕ Global)

abbrev items_of : Option (Vec ℕ Global) → Option (List ℕ)
items_of found = option_map (λ v. v.items) found

items_of-cond : (b : Bool) (v : Vec ℕ Global) (rest : Option (Vec ℕ Global)) → items_of (cond b (Some v) rest) ≡ cond b (Some v.items) (items_of rest)
items_of-cond true v rest = refl
items_of-cond false v rest = refl

-- a name's bytes among the entries are those that the map finds
find-entries : (entries : Entries) (name : List ℕ)
    → find (slice_cmp nat_cmp) name (map (λ e. (string_bytes e.0, e.1.items)) entries)
    ≡ items_of (lookup (is_at (λ k. slice_cmp nat_cmp name (string_bytes k))) entries)
find-entries [] name = refl
find-entries (e ∷ entries) name =
    ap (cond (is_eq (slice_cmp nat_cmp name (string_bytes e.0))) (Some e.1.items)) (find-entries entries name)
    ∙ sym (items_of-cond (is_eq (slice_cmp nat_cmp name (string_bytes e.0))) e.1 _)

pub held_at-held_in : (m : BTreeMap (String Global) (Vec ℕ Global)) (name : List ℕ)
    → held_at (held_in m.entries) name ≡ items_of (get_by_text m name)
held_at-held_in m name = get-from_entries nat_list_cmp_total _ name ∙ find-entries m.entries name

-- putting a value under a key puts its bytes under the name
pub held_in-insert : (m n : BTreeMap (String Global) (Vec ℕ Global)) (key : String Global) (value : Vec ℕ Global)
    → tree.Updates string_cmp m n key (Some value)
    → held_in n.entries ≡ holding (held_in m.entries) (string_bytes key) value.items
held_in-insert m n key value updates =
    same_map nat_list_cmp_total (slice_cmp-IsAntisymmetric nat_cmp-IsAntisymmetric) _ _ (λ name.
    held_at-held_in n name
    ∙ ap items_of (btree_map_updates_text (string_bytes key) m n (Some value) updates name)
    ∙ items_of-cond (bytes_eq (string_bytes key) name) value (get_by_text m name)
    ∙ ap (λ b. cond b (Some value.items) (items_of (get_by_text m name)))
    (sym (is_eq-slice_cmp (string_bytes key) name) ∙ (eq_by_cmp_equiv nat_list_cmp_total).symm (string_bytes key) name)
    ∙ ap (cond (is_eq (slice_cmp nat_cmp name (string_bytes key))) (Some value.items)) (sym (held_at-held_in m name))
    ∙ sym (get-insert nat_list_cmp_total (held_in m.entries) (string_bytes key) value.items name))
