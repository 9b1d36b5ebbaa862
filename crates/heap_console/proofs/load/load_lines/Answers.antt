use Rattle.heap_console.proofs.load.load_lines.Goals as goal

pub returns : goal.returns
returns g c = (_, _, _, _, c.serve-ended.ensures.text)
