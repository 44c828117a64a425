mod TestFormats
