use Rattle.ps_findings.proofs.Oddities.{is_first, is_last, is_later}
use Rattle.ps_findings.proofs.comments.begins_isolate.Goals as goal

pub returns-then-starts_with : goal.returns-then-starts_with
unfolding lib.Utf8.encode
returns-then-starts_with c = is_first _ _ _ c.starts_with.ensures.value c.if-starts_with.true

pub returns-then-starts_with-2 : goal.returns-then-starts_with-2
unfolding lib.Utf8.encode
returns-then-starts_with-2 c = is_later _ _ _ _ c.starts_with.ensures.value c.if-starts_with.false (is_first _ _ _ c.starts_with-2.ensures.value c.if-starts_with-2.true)

pub returns-then-starts_with-3 : goal.returns-then-starts_with-3
unfolding lib.Utf8.encode
returns-then-starts_with-3 c = is_later _ _ _ _ c.starts_with.ensures.value c.if-starts_with.false (is_later _ _ _ _ c.starts_with-2.ensures.value c.if-starts_with-2.false (is_first _ _ _ c.starts_with-3.ensures.value c.if-starts_with-3.true))

pub returns : goal.returns
unfolding lib.Utf8.encode
returns c = is_later _ _ _ _ c.starts_with.ensures.value c.if-starts_with.false (is_later _ _ _ _ c.starts_with-2.ensures.value c.if-starts_with-2.false (is_later _ _ _ _ c.starts_with-3.ensures.value c.if-starts_with-3.false (is_last _ _ c.starts_with-4.ensures.value)))
