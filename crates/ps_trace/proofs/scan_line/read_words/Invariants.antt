use Rattle.std.proofs.Common.{◌≡◌, ◌≤◌, ◌+◌, ◌-◌, ◌&&◌, ◌++◌, IsTrue, length, take, drop, is_some}
use Rattle.std.specs.List.{list_all, filter_map}
use Rattle.ps_trace.specs.Words.{words}
use Rattle.ps_trace.specs.Trace.{value_of}
use Rattle.ps_trace.proofs.scan_line.read_words.Given as goal

abbrev pub invariant-words : goal.invariant-words
invariant-words l = record {
  within : l.next ≤ length l.line;
  few : l.count ≤ l.next;
  count : length (words (drop l.at l.line)) ≡ l.count + length (words (drop l.next l.line));
  proper : list_all (λ word. is_some (value_of word)) (words (drop l.at l.line))
      ≡ (l.proper && list_all (λ word. is_some (value_of word)) (words (drop l.next l.line)));
  values : IsTrue l.proper → l.count ≤ length l.values →
      take l.count l.values ++ filter_map value_of (words (drop l.next l.line)) ≡ filter_map value_of (words (drop l.at l.line));
}

abbrev pub decreases-words : goal.decreases-words
decreases-words l = length l.line - l.next
