-- A goal's name has the first four bytes as a number, and the last byte that is compared.
use Rattle.std.proofs.Common.{rules, tests}
use Rattle.session_text.proofs.QuickLines.{load_keyword_stands_first, store_keyword_stands_first, put_keyword_stands_first, move_keyword_stands_first, clear_keyword_stands_first, new_keyword_stands_first, mark_line_stands_first, rewind_keyword_stands_first}
use Rattle.session_text.proofs.mutator.verb_of.Goals as goal

pub returns-in-1684107116-eq32 : goal.returns-in-1684107116-eq32
returns-in-1684107116-eq32 c = search (rules, tests, load_keyword_stands_first)

pub returns-in-1919906931-eq101 : goal.returns-in-1919906931-eq101
returns-in-1919906931-eq101 c = search (rules, tests, store_keyword_stands_first)

pub returns-in-544503152-default : goal.returns-in-544503152-default
returns-in-544503152-default c = search (rules, tests, put_keyword_stands_first)

pub returns-in-1702260589-eq32 : goal.returns-in-1702260589-eq32
returns-in-1702260589-eq32 c = search (rules, tests, move_keyword_stands_first)

pub returns-in-1634036835-eq114 : goal.returns-in-1634036835-eq114
returns-in-1634036835-eq114 c = search (rules, tests, clear_keyword_stands_first)

pub returns-in-544695662-default : goal.returns-in-544695662-default
returns-in-544695662-default c = search (rules, tests, new_keyword_stands_first)

pub returns-in-1802658157-eq10 : goal.returns-in-1802658157-eq10
returns-in-1802658157-eq10 c = search (rules, tests, mark_line_stands_first)

pub returns-in-1769432434-eq110 : goal.returns-in-1769432434-eq110
returns-in-1769432434-eq110 c = search (rules, tests, rewind_keyword_stands_first)
