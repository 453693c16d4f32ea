use Rattle.std.proofs.lemmas.Result.{MatchResult-from_err}
use Rattle.hard_wrap.proofs.Words.{passed_end, passed_name, passed_piece, passed_narrow}
use Rattle.hard_wrap.proofs.line.OpenLine.hard_wrap.Goals as goal

pub returns-in_err-wrap_piece-clause-wraps : goal.returns-in_err-wrap_piece-clause-wraps
returns-in_err-wrap_piece-clause-wraps c =
    λ d₀ base b w q v f.
    MatchResult-from_err _ _ _ c.from_residual.ensures.0
    (λ n. passed_narrow _ _ _ _ _ _ c.loop-at.invariant c.args.word.now.items c.bytes-bytes.ensures c.tags-tags.ensures c.loop-at-test.true _ c.run_end-end.ensures.lower_bound.1 c.run_end-end.ensures.value c.if-tag-lt-MARK.true
    n c.wrap_piece.new.self c.in_err-wrap_piece.ensures.pieces d₀ base b w q v f)

pub loop-at-preserved-in_ok-wrap_piece : goal.loop-at-preserved-in_ok-wrap_piece
loop-at-preserved-in_ok-wrap_piece c =
    passed_piece _ _ _ _ _ _ c.loop-at.invariant c.args.word.now.items c.bytes-bytes.ensures c.tags-tags.ensures c.loop-at-test.true _ c.run_end-end.ensures.lower_bound.1 c.run_end-end.ensures.value c.if-tag-lt-MARK.true
    c.wrap_piece.new.self c.in_ok-wrap_piece.ensures.stays c.in_ok-wrap_piece.ensures.grows c.in_ok-wrap_piece.ensures.pieces

pub loop-at-preserved : goal.loop-at-preserved
loop-at-preserved c =
    passed_name _ _ _ _ _ _ c.loop-at.invariant c.args.word.now.items c.bytes-bytes.ensures c.tags-tags.ensures c.loop-at-test.true _ c.run_end-end.ensures.lower_bound.1 c.run_end-end.ensures.value c.if-tag-lt-MARK.false

pub returns-clause-wraps : goal.returns-clause-wraps
returns-clause-wraps c =
    passed_end _ _ _ _ _ _ c.loop-at.invariant c.args.word.now.items c.bytes-bytes.ensures c.tags-tags.ensures c.loop-at-test.false
