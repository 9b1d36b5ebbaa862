use Rattle.heap_server.proofs.client_session.serve_client.Given as goal

abbrev pub ghosts-serve_behind : goal.ghosts-serve_behind
ghosts-serve_behind g a = record { start = record { bytes = a.ahead.bytes.items; failed = a.ahead.failed; first = g.I.Inlet.seen a.inlet } }
