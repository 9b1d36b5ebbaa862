use Rattle.std.proofs.Common.{◌∙◌, sym, subst, ap}
use Rattle.std.specs.Prelude.{MatchOption}
use Rattle.std.proofs.lemmas.Bool.{lt-leb}
use Rattle.session_grammar.specs.Lines.{IsLineAt, NoLf}
use Rattle.heap_server.specs.Http.{is_request_line}
use Rattle.heap_server.proofs.FirstLines.{asks_line, long_line_asks_no_http, bytes_without_feed_ask_no_http}
use Rattle.heap_server.proofs.http.asks_http.Goals as goal

pub returns-in_default : goal.returns-in_default
returns-in_default c =
    sym (bytes_without_feed_ask_no_http c.args.most c.args.bytes.now (subst (λ o. MatchOption o (NoLf c.args.bytes.now) (λ n. IsLineAt n c.args.bytes.now)) c.in_default.is c.line_end.ensures))

pub returns-then-end-most : goal.returns-then-end-most
returns-then-end-most c =
    let at = subst (λ o. MatchOption o (NoLf c.args.bytes.now) (λ n. IsLineAt n c.args.bytes.now)) c.in-Some.is c.line_end.ensures in
    c.is_request_line.ensures ∙ ap is_request_line c.without_cr.ensures ∙ sym (asks_line c.args.most c.in-Some.end c.args.bytes.now at c.if-end-most.true)

pub returns-else-end-most : goal.returns-else-end-most
returns-else-end-most c =
    let at = subst (λ o. MatchOption o (NoLf c.args.bytes.now) (λ n. IsLineAt n c.args.bytes.now)) c.in-Some.is c.line_end.ensures in
    lt-leb c.in-Some.end c.args.most c.if-end-most.false ∙ sym (long_line_asks_no_http c.args.most c.in-Some.end c.args.bytes.now at c.if-end-most.false)
