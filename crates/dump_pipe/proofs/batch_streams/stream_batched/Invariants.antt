use Rattle.dump_pipe.proofs.batch_streams.stream_batched.Given as goal

abbrev pub ghosts-stream_by : goal.ghosts-stream_by
ghosts-stream_by g a = record { told = (g.S.Source.seen a.source).told }
