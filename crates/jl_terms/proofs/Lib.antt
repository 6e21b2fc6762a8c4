mod KeywordForms
mod SameLengths
mod TypeEntries
