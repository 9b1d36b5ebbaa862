use Rattle.heap_files.proofs.source.run_lines.Goals as goal

pub returns : goal.returns
returns g c = (
  _,
  c.serve_asking-ended.new.writer,
  c.serve_asking-ended.result,
  rw c.new-answers.ensures at c.serve_asking-ended.ensures.session,
  rw c.into_text.ensures at (rw c.place.ensures.value at c.source_answer.ensures),
)
