-- The words of instructions, one after the other.
use Rattle.std.proofs.Common.{◌≡◌, ℕ, ◌+◌, ◌^◌, ◌<◌, List, [], ◌∷◌, ◌++◌, map, drop, length, Some, Result, Ok, Err, refl, sym, ap, ◌∙◌, append_assoc, append-nil, get_or, add-one, drop-cons}
use Rattle.std.specs.Prelude.{flat_map}
use Rattle.std.proofs.lemmas.List.Concat.{flat_map-append}
use Rattle.rv32_decode.specs.declared.instr.Instr.{Instr}
use Rattle.rv32_decode.specs.Table.{decode_of}
use Rattle.rv32_asm.specs.declared.fault.AsmFault.{AsmFault}
use Rattle.rv32_asm.specs.Draft.{Label, Entry}
use Rattle.rv32_asm.specs.Assembly.{◌>>=◌, entry_code, entries_code}
use Rattle.rv32_asm.specs.File.{word, AreWordsOf, AppendsCode}
use Rattle.rv32_asm.specs.declared.draft.Label.{Label as ReadLabel}
use Rattle.rv32_asm.specs.declared.draft.Entry.{Entry as ReadEntry}
use Rattle.rv32_asm.specs.Seen.{label_seen, entry_seen}

pub one_word : (i : Instr) (w : ℕ) (old new : List ℕ) → w < 2 ^ 32 → decode_of w ≡ Some i → new ≡ old ++ word w → AppendsCode (i ∷ []) old new
one_word i w old new fits decoded bytes = record {
  words = w ∷ [];
  are_words = (fits, decoded, tt);
  bytes = bytes ∙ ap (λ (more : List ℕ). old ++ more) (sym (append-nil (word w)));
}

words-append : (a b : List Instr) (u v : List ℕ) → AreWordsOf a u → AreWordsOf b v → AreWordsOf (a ++ b) (u ++ v)
words-append [] b [] v first second = second
words-append [] b (w ∷ u) v first second = absurd first
words-append (i ∷ a) b [] v first second = absurd first
words-append (i ∷ a) b (w ∷ u) v first second = (first.0, first.1, words-append a b u v first.2 second)

pub both : (a b : List Instr) (old middle new : List ℕ) → AppendsCode a old middle → AppendsCode b middle new → AppendsCode (a ++ b) old new
both a b old middle new first second = record {
  words = first.words ++ second.words;
  are_words = words-append a b first.words second.words first.are_words second.are_words;
  bytes = second.bytes ∙ ap (λ (front : List ℕ). front ++ flat_map word second.words) first.bytes
      ∙ append_assoc old (flat_map word first.words) (flat_map word second.words)
      ∙ ap (λ (more : List ℕ). old ++ more) (sym (flat_map-append word first.words second.words));
}

pub nothing : (old : List ℕ) → AppendsCode [] old old
nothing old = record { words = []; are_words = tt; bytes = sym (append-nil old) }

-- instructions before those that are given
abbrev pub with_code : List Instr → Result (List Instr) AsmFault → Result (List Instr) AsmFault
with_code front given = given >>= λ code. Ok (front ++ code)

pub entry_more : (labels : List Label) (e : Entry) (entries : List Entry) (front first : List Instr) → entry_code labels e ≡ Ok first
    → with_code front (entries_code labels (e ∷ entries)) ≡ with_code (front ++ first) (entries_code labels entries)
entry_more labels e entries front first given = rw given (pick (entries_code labels entries))
  where
    pick : (others : Result (List Instr) AsmFault) → with_code front (others >>= λ code. Ok (first ++ code)) ≡ with_code (front ++ first) others
    pick (Ok code) = ap Ok (sym (append_assoc front first code))
    pick (Err f) = refl

pub entry_fault : (labels : List Label) (e : Entry) (entries : List Entry) (front : List Instr) (f : AsmFault) → entry_code labels e ≡ Err f
    → with_code front (entries_code labels (e ∷ entries)) ≡ Err f
entry_fault labels e entries front f given = rw given refl

-- one entry more
pub entry_step : (labels : List ReadLabel) (entries : List ReadEntry) (i : ℕ) (d : ReadEntry) (code first : List Instr) (whole : Result (List Instr) AsmFault)
    → i < length entries → entry_code (map label_seen labels) (entry_seen (get_or entries i d)) ≡ Ok first
    → with_code code (entries_code (map label_seen labels) (map entry_seen (drop i entries))) ≡ whole
    → with_code (code ++ first) (entries_code (map label_seen labels) (map entry_seen (drop (i + 1) entries))) ≡ whole
entry_step labels entries i d code first whole there given all =
    let split : drop i entries ≡ get_or entries i d ∷ drop (i + 1) entries = rw (add-one, drop-cons entries i d) refl in
    sym (entry_more (map label_seen labels) (entry_seen (get_or entries i d)) (map entry_seen (drop (i + 1) entries)) code first given)
    ∙ ap (λ (es : List ReadEntry). with_code code (entries_code (map label_seen labels) (map entry_seen es))) (sym split) ∙ all
