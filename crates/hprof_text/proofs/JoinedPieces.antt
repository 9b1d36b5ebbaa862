-- The pieces joined are the text.
use Rattle.std.proofs.Common.{◌≡◌, ℕ, List, [], ◌∷◌, ◌++◌, sym, ap, ◌∙◌, append_assoc}
use Rattle.std.specs.List.{concat}
use Rattle.std.proofs.lemmas.List.{append-nil}
use Rattle.std.proofs.lemmas.List.Folds.{concat-append}
use Rattle.heap_class.specs.declared.IdSize.{IdSize}
use Rattle.hprof_text.specs.Image.{Image}
use Rattle.hprof_text.specs.Text.{opening_records, sub_records}
use Rattle.hprof_text.specs.Segments.{segment_records, end_record, dump_text, pieces_of}
use Rattle.hprof_text.specs.Laws.{PiecesJoin}

-- lists, and one more, joined
concat_with_last_list : (xs : List (List ℕ)) (last : List ℕ) → concat (xs ++ last ∷ []) ≡ concat xs ++ last
concat_with_last_list xs last = concat-append xs (last ∷ []) ∙ ap (λ l. concat xs ++ l) (append-nil last)

pub pieces_join_to_dump : (ids : IdSize) (image : Image) (time : ℕ) → PiecesJoin ids image time
unfolding dump_text pieces_of
pieces_join_to_dump ids image time =
    let records = segment_records (sub_records ids image) in
    ap (λ l. opening_records ids image time ++ l) (concat_with_last_list records end_record)
    ∙ sym (append_assoc (opening_records ids image time) (concat records) end_record)
